-- A number that comes to an arm has the shape of the arm; any other has none. Assumes nothing.
use mathlib.Core.Path.{◌∙◌}
use Rattle.meaning.specs.Shapes.{meets}
use Rattle.shape.proofs.Coded.{in_shape, shape_other}
use Rattle.shape.proofs.Meeting.{one_digit}
use Rattle.shape.proofs.meets.Goals as goal

pub returns-in-1 : goal.returns-in-1
unfolding meets
returns-in-1 c = rw (in_shape 0 _ c.in-1.is)

pub returns-in-18 : goal.returns-in-18
unfolding meets
returns-in-18 c = rw (in_shape 1 _ c.in-18.is)

pub returns-in-60 : goal.returns-in-60
unfolding meets
returns-in-60 c = rw (in_shape 2 _ c.in-60.is)

pub returns-in-3 : goal.returns-in-3
unfolding meets
returns-in-3 c = rw (in_shape 3 _ c.in-3.is)

pub returns-in-2 : goal.returns-in-2
unfolding meets
returns-in-2 c = rw (in_shape 4 _ c.in-2.is) c.meets_blocks.ensures

pub returns-in-6 : goal.returns-in-6
unfolding meets
returns-in-6 c = rw (in_shape 5 _ c.in-6.is)

pub returns-in-7 : goal.returns-in-7
unfolding meets
returns-in-7 c = rw (in_shape 6 _ c.in-7.is)

pub returns-in-4 : goal.returns-in-4
unfolding meets
returns-in-4 c = rw (in_shape 7 _ c.in-4.is)

pub returns-in-9 : goal.returns-in-9
unfolding meets
returns-in-9 c = rw (in_shape 8 _ c.in-9.is)

pub returns-in-31 : goal.returns-in-31
unfolding meets
returns-in-31 c = rw (in_shape 9 _ c.in-31.is) c.meets_digits.ensures

pub returns-in-264 : goal.returns-in-264
unfolding meets
returns-in-264 c = rw (in_shape 10 _ c.in-264.is) c.meets_digits-in-264.ensures

pub returns-in-265 : goal.returns-in-265
unfolding meets
returns-in-265 c = rw (in_shape 11 _ c.in-265.is) c.meets_digits-in-265.ensures

pub returns-in-44 : goal.returns-in-44
unfolding meets
returns-in-44 c = rw (in_shape 12 _ c.in-44.is) c.meets_hex.ensures

pub returns-in-261 : goal.returns-in-261
unfolding meets
returns-in-261 c = rw (in_shape 13 _ c.in-261.is) c.meets_qos.ensures

pub returns-in-266 : goal.returns-in-266
unfolding meets
returns-in-266 c = rw (in_shape 14 _ c.in-266.is) c.meets_hex-in-266.ensures

pub returns-in-267 : goal.returns-in-267
unfolding meets
returns-in-267 c = rw (in_shape 15 _ c.in-267.is)

pub returns-in-268 : goal.returns-in-268
unfolding meets
returns-in-268 c = rw (in_shape 16 _ c.in-268.is) (c.meets_digits-in-268.ensures ∙ one_digit c.args.value.now)

pub returns-in_default : goal.returns-in_default
unfolding meets
returns-in_default c = rw (shape_other _ c.in_default.in_default-own.rest)
