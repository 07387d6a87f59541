-- What the calls answer, the first refusal that fits, by number; and what a recovery gives.
use Rattle.std.specs.Prelude.{◌≡◌, ℕ, ◌*◌, ◌<◌, Bool, cond, not, ◌&&◌, List, length, Ok, Err, Result, ◌==◌, nat_le}
use Rattle.octets.specs.Outcome.{Refused, plain}
use Rattle.octets.specs.Shares.{share}
use Rattle.codes.specs.Code.{Table}
use Rattle.codes.specs.Words.{at, codeword, Through}
use Rattle.erasure.specs.Limits.{ok_width, ok_size}
use Rattle.erasure.specs.Places.{rising_below}

-- buffers of n and m bytes hold k and 2k shares
abbrev pub fitting : ℕ → ℕ → ℕ → ℕ → Bool
fitting k s n m = n == k * s && m == 2 * k * s

-- k is allowed, and buffers of n and m bytes hold k shares each, of whatever size
unfoldable pub parity_fits : ℕ → ℕ → ℕ → ℕ → Bool
parity_fits k size n m = ok_width k && (n == k * size && m == k * size)

-- k is allowed, a share is of 1 to 64 cells of at most 512 bytes, and a buffer of n bytes holds 2k shares of w cells of s bytes
unfoldable pub complete_fits : ℕ → ℕ → ℕ → ℕ → Bool
complete_fits k w s n = ok_width k && (nat_le 1 w && (nat_le w 64 && (nat_le s 512 && n == 2 * k * (w * s))))

-- from k, s and the lengths of the data and of the target
unfoldable pub encode_outcome : ℕ → ℕ → ℕ → ℕ → Result (Unit {0}) Refused
encode_outcome k s n m =
    cond (not (ok_width k)) (Err (plain 1)) (cond (not (ok_size s)) (Err (plain 2)) (cond (not (fitting k s n m)) (Err (plain 3)) (Ok tt)))

-- from k, s, the places, and the lengths of the shares and of the target
unfoldable pub recover_outcome : ℕ → ℕ → List ℕ → ℕ → ℕ → Result (Unit {0}) Refused
recover_outcome k s ps n m =
    cond (not (ok_width k)) (Err (plain 1)) (cond (not (ok_size s)) (Err (plain 2))
    (cond (not (length ps == k && fitting k s n m)) (Err (plain 3)) (cond (not (rising_below (2 * k) ps)) (Err (plain 5)) (Ok tt))))

-- any k shares give back all 2k: of whatever data the shares xs are those of the codeword at the places ps, that codeword is out
abbrev pub GivesBack : Table → ℕ → ℕ → List ℕ → List ℕ → List ℕ → Type 0
GivesBack T k s ps xs out =
    (d : List ℕ) → ((j : ℕ) → j < k → share s j xs ≡ share s (at ps j) (codeword T k s d)) → out ≡ codeword T k s d

-- and no other codeword goes through these shares
abbrev pub NoOther : Table → ℕ → ℕ → List ℕ → List ℕ → List ℕ → Type 0
NoOther T k s ps xs out = (ws : List ℕ) → Through T k s ps xs ws → ws ≡ out
