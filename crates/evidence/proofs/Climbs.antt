-- The climb of an evidence, one tree after the other.
use Rattle.std.proofs.Common.{◌≡◌, ℕ, ◌+◌, ◌*◌, ◌%◌, ◌≤◌, cond, List, ◌∷◌, length, take, drop, sym, ap, ◌∙◌, arith, length-drop}
use Rattle.std.proofs.lemmas.List.{length-take-le}
use Rattle.std.proofs.lemmas.Bool.{cond-true, and_from, le-leb, eq-eqb}
use Rattle.climbs.specs.Answers.{climb_leaf_fits}
use Rattle.hash.specs.Digests.{digest_len, parts_limit}
use Rattle.merkle.specs.Tree.{sides}
use Rattle.merkle.specs.Climb.{plain_rule, rungs, alone, levels, from_leaf, through_two, climb, climb_leaf}
use Rattle.merkle.proofs.Climbing.{climb_append}
use Rattle.merkle.proofs.Steps.{slots_take}

-- by all digests of a row of d of them
pub climb_by : (f : List ℕ → List ℕ) (d p : ℕ) (path v : List ℕ) → length path ≡ digest_len * d → climb_leaf f p path v ≡ climb plain_rule f (from_leaf d p path) v
climb_by f d p path v l = let n : levels path ≡ d = omega arith in ap (λ m. climb plain_rule f (from_leaf m p path) v) n

-- by the first d digests of a path, and then by e others
pub two_stages : (f : List ℕ → List ℕ) (d p e q : ℕ) (path v : List ℕ) → length path ≡ digest_len * (d + e)
    → climb_leaf f q (drop (digest_len * d) path) (climb_leaf f p (take (digest_len * d) path) v) ≡ climb plain_rule f (through_two d p e q path) v
two_stages f d p e q path v l =
    let front : length (take (digest_len * d) path) ≡ digest_len * d = length-take-le (digest_len * d) path (omega arith) in
    let back : length (drop (digest_len * d) path) ≡ digest_len * e = simp length-drop (omega arith) in
    climb_by f e q (drop (digest_len * d) path) (climb_leaf f p (take (digest_len * d) path) v) back
    ∙ ap (climb plain_rule f (from_leaf e q (drop (digest_len * d) path)))
    (climb_by f d p (take (digest_len * d) path) v front ∙ ap (λ ys. climb plain_rule f (alone ∷ rungs (sides d p) ys) v) (slots_take d (digest_len * d) path (omega arith)))
    ∙ sym (climb_append plain_rule f (from_leaf d p path) (from_leaf e q (drop (digest_len * d) path)) v)

-- a climb whose lengths fit
pub climbed : (f : List ℕ → List ℕ) (p : ℕ) (path path' v out end : List ℕ) → length v ≤ parts_limit → path ≡ path' → length path' % digest_len ≡ 0 → length out ≡ digest_len
    → end ≡ cond (climb_leaf_fits (length v) (length path) (length out)) (climb_leaf f p path v) out → end ≡ climb_leaf f p path' v
climbed f p path path' v out end few same whole o e =
    e ∙ cond-true (climb_leaf_fits (length v) (length path) (length out)) _ _
    (and_from _ _ (and_from _ _ (le-leb (length v) parts_limit few) (eq-eqb (length path % digest_len) 0 (ap (λ x. length x % digest_len) same ∙ whole))) (eq-eqb (length out) digest_len o))
    ∙ ap (λ x. climb_leaf f p x v) same
