use native.Mathlib.Omega.{arith}
use Prim.Native.Nat.{ℕ, suc, ◌+◌, ◌*◌, ◌≤◌, ◌<◌, ◌^◌}
use native.Mathlib.Nat.{pow-le-pow_right}
use mathlib.Core.Path.{◌≡◌, refl, subst, ◌∙◌}
use mathlib.Core.List.{List}
use lib.ListN.{get_or}
use lib.Pow.{pow-add}
use Rattle.questions.specs.Hex.{digit_of, hex_of}
use Rattle.questions.proofs.hex.number.Goals as goal

-- Before the sixteenth digit a number is below 2 ^ 60, and one more digit keeps it below the next power.
room : (b i n : ℕ) → b < 16 ^ i → i < n → n ≤ 16 → b < 16 ^ 15
room b i n l m h = let k : i ≤ 15 = omega arith in omega (arith, pow-le-pow_right {n = 16} (omega arith) k)

more : (b d i : ℕ) → b < 16 ^ i → d < 16 → b * 16 + d < 16 ^ (i + 1)
more b d i l m = let p : 16 ^ (i + 1) ≡ 16 ^ i * 16 = pow-add 16 i 1 in omega (arith, p)

next : (s : List ℕ) (b d x i : ℕ) → b ≡ hex_of i s → d ≡ digit_of x → x ≡ get_or s i 0 → b * 16 + d ≡ hex_of (i + 1) s
unfolding hex_of
next s b d x i p q e = let j : i + 1 ≡ suc i = omega arith in rw (j, p, q, e)

pub loop-i-init : goal.loop-i-init
unfolding hex_of
loop-i-init c = (refl, omega arith)

pub overflow_mul-bits : goal.overflow_mul-bits
overflow_mul-bits c = omega (arith, room c.loop-i.bits c.loop-i.i c.args.n c.loop-i.invariant.1 c.loop-i-test.true c.requires)

pub overflow_add-bits : goal.overflow_add-bits
overflow_add-bits c = omega (arith, room c.loop-i.bits c.loop-i.i c.args.n c.loop-i.invariant.1 c.loop-i-test.true c.requires, c.digit.ensures.upper_bound)

pub loop-i-preserved : goal.loop-i-preserved
loop-i-preserved c =
    let l = c.loop-i in
    (next _ l.bits c.digit.result c.byte.result l.i l.invariant.0 c.digit.ensures.value c.byte.ensures, more l.bits c.digit.result l.i l.invariant.1 c.digit.ensures.upper_bound)

pub returns : goal.returns
returns c =
    let l = c.loop-i in
    let n = c.args.n in
    let e : l.i ≡ n = omega arith in record { value = l.invariant.0 ∙ rw (e, c.part-digits.ensures); upper_bound = subst (λ (k : ℕ). l.bits < 16 ^ k) e l.invariant.1 }
