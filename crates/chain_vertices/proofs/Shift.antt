-- A shifted 1 is a power of two. Assumes nothing.
use Prim.Native.Nat.{ℕ, suc, ◌+◌, ◌*◌, ◌^◌, ◌%◌, ◌<◌}
use native.Mathlib.Nat.{one-mul, pow-succ'}
use native.Mathlib.Omega.{arith}
use mathlib.Core.Path.{◌≡◌, ◌∙◌}
use lib.Dec.{lit<}
use lib.Pow.{pow_mono, shl_exact}

pub shifted : (i : ℕ) → (1 * 2 ^ (i % 64)) % 18446744073709551616 ≡ 2 ^ (i % 64)
shifted i = shl_exact {a = 1} 1 (i % 64) 64 (lit< tt) (omega arith) ∙ one-mul (2 ^ (i % 64))

-- a word with no bit from one on has room for that bit
pub room : (w i : ℕ) → w < 2 ^ (i % 64) → w + 2 ^ (i % 64) < 2 ^ 64
room w i h = omega (arith, h, pow-succ' 2 (i % 64), pow_mono {i = suc (i % 64)} {j = 64} (omega arith))
