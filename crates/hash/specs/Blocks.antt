-- Hashes that work through a padded message block by block.
use Rattle.std.specs.Prelude.{ℕ, ◌/◌, Bool, ◌&&◌, List, ◌++◌, length, nat_le}

-- the most bytes of a message: a lead byte and the two parts of a digest
abbrev pub message_limit : ℕ
message_limit = 4097

-- whether a block may have n bytes
abbrev pub ok_block : ℕ → Bool
ok_block n = nat_le 1 n && nat_le n 136

-- a message and what follows it: `pad` gives what follows a message of so many bytes
abbrev pub padded_by : (ℕ → List ℕ) → List ℕ → List ℕ
padded_by pad m = m ++ pad (length m)

-- what a hash carries after all blocks of b bytes: `after p n` is what it carries after n blocks of the padded message p
abbrev pub after_all : (ℕ → List ℕ) → (List ℕ → ℕ → List ℕ) → ℕ → List ℕ → List ℕ
after_all pad after b m = after (padded_by pad m) (length (padded_by pad m) / b)
