-- Which k and which share sizes there are: these definitions stand for every code and every layer.
use Rattle.std.specs.Prelude.{ℕ, Bool, ◌&&◌, ◌||◌, ◌==◌, nat_le}

-- k, the number of shares that carry the data, is one of six
unfoldable pub ok_width : ℕ → Bool
ok_width k = k == 1 || (k == 2 || (k == 4 || (k == 8 || (k == 16 || k == 32))))

-- a share has 1 to 512 bytes
unfoldable pub ok_size : ℕ → Bool
ok_size s = nat_le 1 s && nat_le s 512
