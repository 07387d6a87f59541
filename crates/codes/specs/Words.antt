-- Codewords of shares: a code is applied byte place by byte place.
use Rattle.std.specs.Prelude.{◌≡◌, ℕ, ◌*◌, ◌<◌, ◌≤◌, List, length, take, slice_index}
use Rattle.octets.specs.Shares.{share, byte_of, buffer}
use Rattle.codes.specs.Code.{Table, Places, symbol}

-- what stands at each place of a list
abbrev pub at : List ℕ → ℕ → ℕ
at xs j = slice_index xs j

-- the codeword of the first k shares, of s bytes each, of a buffer: 2k shares, in which byte b of share i is symbol i of the bytes b of
-- the k shares
unfoldable pub codeword : Table → ℕ → ℕ → List ℕ → List ℕ
codeword T k s xs = buffer (2 * k) s (λ i b. symbol T k (λ j. byte_of s j b xs) i)

-- ws is a codeword: it has 2k shares, and is the codeword of its own first k
pub record IsWord (T : Table) (k s : ℕ) (ws : List ℕ) : Type 0 where
  pub long : length ws ≡ 2 * k * s
  pub own : ws ≡ codeword T k s (take (k * s) ws)

-- ws is the codeword through the shares xs at the places ps: a codeword that has share j of xs at place j of ps
pub record Through (T : Table) (k s : ℕ) (ps xs ws : List ℕ) : Type 0 where
  pub word : IsWord T k s ws
  pub given : (j : ℕ) → j < k → share s (at ps j) ws ≡ share s j xs

-- two codewords of one k and s that agree in k shares are equal
abbrev pub WordsLaw : Table → Type 0
WordsLaw T =
    (k s : ℕ) → k ≤ 128 → (vs ws : List ℕ) → IsWord T k s vs → IsWord T k s ws → (p : ℕ → ℕ) → Places k p
    → ((j : ℕ) → j < k → share s (p j) vs ≡ share s (p j) ws) → vs ≡ ws
