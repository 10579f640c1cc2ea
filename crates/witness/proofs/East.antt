-- From a point of the equator to one a degree on, the bearing is ninety degrees: by computing the definitions.
use mathlib.Core.Path.{◌≡◌, refl}
use mathlib.Core.Bool.{false}
use lib.IntN.{negsuc}
use lib.Ieee.{Float, fin, of_int, of_bits, add, sub, mul, div, rem, neg, lt, eq, ne}
use Rattle.floats.specs.Number.{nought, one}
use Rattle.ieee.specs.Number.{abs_of}
use Rattle.roots.specs.Root.{root_of}
use Rattle.maths.specs.Series.{horner, on_from, sin_c, cos_c, atan_c, sign_of}
use Rattle.maths.specs.Trig.{half_pi, radians_of, degrees_of, sin_of, cos_of}
use Rattle.arcs.specs.Arcs.{halve_of, four_times, atan_of, angle_of, turned_of, atan2_of}
use Rattle.measure.specs.Measure.{bearing_of}
use Rattle.witness.specs.Case.{east}

-- a degree, its sine and its cosine
abbrev degree : Float
degree = fin false 5030569068109113 (negsuc 57)

abbrev sine : Float
sine = fin false 2515156836085391 (negsuc 56)

abbrev cosine : Float
cosine = fin false 4502913707333573 (negsuc 51)

degree_is : radians_of one ≡ degree
unfolding radians_of of_bits of_int div mul
degree_is = refl

none_is : radians_of nought ≡ nought
unfolding radians_of of_bits of_int div mul
none_is = refl

sine_is : sin_of degree ≡ sine
unfolding sin_of horner on_from sin_c of_int neg div mul add
sine_is = refl

sine_of_none : sin_of nought ≡ nought
unfolding sin_of horner on_from sin_c of_int neg div mul add
sine_of_none = refl

cosine_is : cos_of degree ≡ cosine
unfolding cos_of horner on_from cos_c of_int neg div mul add
cosine_is = refl

cosine_of_none : cos_of nought ≡ one
unfolding cos_of horner on_from cos_c of_int neg div mul add
cosine_of_none = refl

angle_is : atan2_of sine nought ≡ half_pi
unfolding atan2_of turned_of angle_of atan_of four_times halve_of root_of horner on_from atan_c sign_of abs_of of_bits of_int neg div mul add sub lt eq ne
angle_is = refl

pub bearing_is : bearing_of nought nought nought one ≡ east
unfolding bearing_of degrees_of of_bits of_int div mul add sub rem
bearing_is = rw (degree_is, none_is, sine_is, sine_of_none, cosine_is, cosine_of_none, angle_is) refl
