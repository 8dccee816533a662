-- Bits moved to twice their places, by which a code word is put at once.
use Rattle.std.specs.Prelude.{ℕ, zero, suc, ◌+◌, ◌*◌, ◌/◌, ◌%◌}

-- the k low bits of b, each at twice its place
unfoldable pub spread_bits : ℕ → ℕ → ℕ
spread_bits zero b = 0
spread_bits (suc k) b = spread_bits k (b / 2) * 4 + b % 2
