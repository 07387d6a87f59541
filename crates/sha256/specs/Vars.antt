-- The code's eight variables as a list of words.
use Rattle.std.specs.Prelude.{ℕ, List, [], ◌∷◌}
use Rattle.sha256.specs.declared.compression.Work.{Work}

abbrev pub vars : Work → List ℕ
vars v = v.a ∷ v.b ∷ v.c ∷ v.d ∷ v.e ∷ v.f ∷ v.g ∷ v.h ∷ []
