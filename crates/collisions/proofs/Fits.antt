-- What the lengths of a search say.
use Rattle.std.proofs.Common.{◌≡◌, ℕ, ◌*◌, ◌%◌, true}
use Rattle.std.proofs.lemmas.Bool.{and_parts, eqb-true, leb-true, ltb-true}
use Rattle.hash.specs.Digests.{digest_len, parts_limit}
use Rattle.collisions.specs.Finding.{strings_fit, search_fits, Fitting}

pub strings_fitting : (v w p q x y : ℕ) → strings_fit v w p q x y ≡ true → Fitting v w p q x y
strings_fitting v w p q x y h =
    let a = and_parts _ _ h in
    let b = and_parts _ _ a.0 in
    let c = and_parts _ _ b.0 in
    let d = and_parts _ _ c.0 in
    let e = and_parts _ _ d.0 in
    let k = and_parts _ _ e.0 in
    let m = and_parts _ _ k.0 in
    record {
      values = eqb-true v w m.0;
      short = leb-true v parts_limit m.1;
      paths = eqb-true p q k.1;
      digests = eqb-true (p % digest_len) 0 e.1;
      leaf_one = ltb-true v x d.1;
      leaf_other = ltb-true v y c.1;
      pair_one = ltb-true (2 * digest_len) x b.1;
      pair_other = ltb-true (2 * digest_len) y a.1;
    }

pub search_fitting : (v w p q a b x y : ℕ) → search_fits v w p q a b x y ≡ true → Fitting v w p q x y × (a ≡ digest_len) × (b ≡ digest_len)
search_fitting v w p q a b x y h =
    let k = and_parts _ _ h in
    let m = and_parts _ _ k.0 in
    (strings_fitting v w p q x y m.0, eqb-true a digest_len m.1, eqb-true b digest_len k.1)
