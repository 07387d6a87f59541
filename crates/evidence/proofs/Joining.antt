-- A buffer that is written in two parts.
use Rattle.std.proofs.Common.{◌≡◌, ℕ, ◌≤◌, List, ◌++◌, length, drop, ap, ◌∙◌}
use borrow.Rule.Slice.PartMut.{put_mid, post_of}
use Rattle.std.proofs.lemmas.List.{take_at, drop_at, drop_all, append-nil}

pub two_parts : (a b rest : List ℕ) (cut k : ℕ) → length a ≡ cut → length rest ≤ k → put_mid cut k (a ++ rest) b ≡ a ++ b
two_parts a b rest cut k l h =
    ap (λ x. x ++ (b ++ post_of cut k (a ++ rest))) (take_at a rest cut l)
    ∙ ap (λ x. a ++ (b ++ drop k x)) (drop_at a rest cut l)
    ∙ ap (λ x. a ++ (b ++ x)) (drop_all k rest h)
    ∙ ap (λ x. a ++ x) (append-nil b)
