-- What a search for the first collision of two climbs answers and writes.
use Rattle.std.specs.Prelude.{◌≡◌, ℕ, ◌*◌, ◌/◌, ◌%◌, ◌<◌, ◌≤◌, Bool, ◌&&◌, List, ◌++◌, length, take, drop, Some, None, Option, ◌==◌, ◌≢◌, nat_le, nat_lt}
use Rattle.hash.specs.Digests.{digest_len, parts_limit}
use Rattle.merkle.specs.Climb.{Node, Rung, plain_rule, climb}
use Rattle.merkle.specs.Binding.{Two, Collision, found}

-- a string at the front of a buffer, whose rest stays
abbrev pub at_front : List ℕ → List ℕ → List ℕ
at_front s out = s ++ drop (length s) out

-- the strings' common length
abbrev pub found_len : Option Two → Option ℕ
found_len None = None
found_len (Some t) = Some (length t.one)

-- the buffers of the two strings after a search that found o, and the buffer of a climb's end: it is written where nothing was found
abbrev pub put_one : Option Two → List ℕ → List ℕ
put_one None out = out
put_one (Some t) out = at_front t.one out

abbrev pub put_other : Option Two → List ℕ → List ℕ
put_other None out = out
put_other (Some t) out = at_front t.other out

abbrev pub put_end : Option Two → Node → List ℕ → List ℕ
put_end None end out = end
put_end (Some t) end out = out

-- the first n bytes of two buffers are a collision in hand
pub record InHand (f : List ℕ → List ℕ) (n : ℕ) (x y : List ℕ) : Type 0 where
  pub one_long : length (take n x) ≡ n
  pub other_long : length (take n y) ≡ n
  pub collision : Collision f (record { one = take n x; other = take n y })

-- A search of the climbs by rs from v and by qs from w, over string buffers x and y: it answers r and leaves x' and y'. It finds the
-- first collision; what it finds is in hand; and it finds one if v and w differ and the climbs end alike.
pub record Finds (f : List ℕ → List ℕ) (rs qs : List Rung) (v w : List ℕ) (r : Option ℕ) (x y x' y' : List ℕ) : Type 0 where
  pub answer : r ≡ found_len (found f rs qs v w)
  pub one : x' ≡ put_one (found f rs qs v w) x
  pub other : y' ≡ put_other (found f rs qs v w) y
  pub in_hand : (n : ℕ) → r ≡ Some n → InHand f n x' y'
  pub meets : (v ≢ w) → climb plain_rule f rs v ≡ climb plain_rule f qs w → (n : ℕ) × (r ≡ Some n)

-- What the buffers of the two ends, a and b before, hold after it: the ends where nothing was found.
pub record Ends (f : List ℕ → List ℕ) (rs qs : List Rung) (v w : List ℕ) (a b a' b' : List ℕ) : Type 0 where
  pub one : a' ≡ put_end (found f rs qs v w) (climb plain_rule f rs v) a
  pub other : b' ≡ put_end (found f rs qs v w) (climb plain_rule f qs w) b

-- Values of v and w bytes, paths of p and q and strings' buffers of x and y: values of one length that can be hashed, paths of one
-- length that are digests, and room for every string on the way.
abbrev pub strings_fit : ℕ → ℕ → ℕ → ℕ → ℕ → ℕ → Bool
strings_fit v w p q x y =
    (v == w) && nat_le v parts_limit && p == q && p % digest_len == 0
    && nat_lt v x && nat_lt v y && nat_lt (2 * digest_len) x && nat_lt (2 * digest_len) y

-- the same, fact by fact
pub record Fitting (v w p q x y : ℕ) : Type 0 where
  pub values : v ≡ w
  pub short : v ≤ parts_limit
  pub paths : p ≡ q
  pub digests : p % digest_len ≡ 0
  pub leaf_one : v < x
  pub leaf_other : v < y
  pub pair_one : 2 * digest_len < x
  pub pair_other : 2 * digest_len < y

-- and buffers of a and b bytes for the ends
abbrev pub search_fits : ℕ → ℕ → ℕ → ℕ → ℕ → ℕ → ℕ → ℕ → Bool
search_fits v w p q a b x y = strings_fit v w p q x y && a == digest_len && b == digest_len

-- A climb through two trees: the first of depth d, and the rest of the path for the second.
abbrev pub two_fit : ℕ → ℕ → ℕ → ℕ → ℕ → ℕ → ℕ → Bool
two_fit d v w p q x y = strings_fit v w p q x y && nat_le d (p / digest_len)

-- Two searches, one after the other, are one search of both parts: what the first finds, or else what the second finds from the ends
-- that the first reached.
pub record Chained (f : List ℕ → List ℕ) (rs rs' qs qs' : List Rung) (v w : List ℕ) : Type 0 where
  pub at_first : (n : ℕ) (x y x' y' : List ℕ) → Finds f rs rs' v w (Some n) x y x' y' → Finds f (rs ++ qs) (rs' ++ qs') v w (Some n) x y x' y'
  pub or_then : (r : Option ℕ) (x y x₁ y₁ x' y' : List ℕ) → Finds f rs rs' v w None x y x₁ y₁
      → Finds f qs qs' (climb plain_rule f rs v) (climb plain_rule f rs' w) r x₁ y₁ x' y' → Finds f (rs ++ qs) (rs' ++ qs') v w r x y x' y'

abbrev pub SearchesChain : (List ℕ → List ℕ) → Type 0
SearchesChain f = (rs rs' qs qs' : List Rung) (v w : List ℕ) → length rs ≡ length rs' → Chained f rs rs' qs qs' v w
