use Rattle.std.proofs.Common.{◌≡◌, ◌∙◌, sym, None, arith, rules}
use Rattle.case_digits.proofs.Spelling.{digit_next, digits_over, next_power, next_fits, spelled_whole}
use Rattle.case_digits.proofs.digits.spelled.Goals as goal

pub returns-in_err-d : goal.returns-in_err-d
returns-in_err-d c =
    let none : c.digit.result ≡ None = search rules in
    let answer : c.from_residual.result ≡ None = search rules in
    rw answer (spelled_whole c.args.base c.args.most c.args.s.now None (search rules) (omega arith) (c.loop-b.invariant.1 ∙ digit_next c.args.base c.loop-b.value c.args.s.now c.loop-b.b-index None c.loop-b-test.true (sym none ∙ c.digit.ensures.value)))

pub overflow_mul-value : goal.overflow_mul-value
overflow_mul-value c = record { fits = omega (arith, next_fits c.args.base c.args.most c.loop-b.value 0 c.loop-b.b-index c.requires.base_nonzero c.requires.most_bound (omega arith) c.loop-b.invariant.0 c.requires.base_nonzero) }

pub overflow_add-value : goal.overflow_add-value
overflow_add-value c = record { fits = next_fits c.args.base c.args.most c.loop-b.value c.in_ok-d.d c.loop-b.b-index c.requires.base_nonzero c.requires.most_bound (omega arith) c.loop-b.invariant.0 c.in_ok-d.ensures.below }

pub loop-b-preserved : goal.loop-b-preserved
loop-b-preserved c = (next_power c.args.base c.loop-b.value c.in_ok-d.d c.loop-b.b-index c.loop-b.invariant.0 c.in_ok-d.ensures.below, c.loop-b.invariant.1 ∙ digit_next c.args.base c.loop-b.value c.args.s.now c.loop-b.b-index _ c.loop-b-test.true c.in_ok-d.ensures.value)

pub returns : goal.returns
returns c = spelled_whole c.args.base c.args.most c.args.s.now _ (search rules) (omega arith) (c.loop-b.invariant.1 ∙ digits_over c.args.base c.loop-b.value c.args.s.now c.loop-b.b-index c.loop-b-test.false)
