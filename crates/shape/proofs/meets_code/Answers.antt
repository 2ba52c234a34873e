-- The shape of each code; a code that no shape has asks for nothing. Assumes nothing.
use mathlib.Core.Path.{◌∙◌}
use Rattle.meaning.specs.Shapes.{meets}
use Rattle.shape.specs.Codes.{code_of, shape_by}
use Rattle.shape.proofs.Codes.{no_shape}
use Rattle.shape.proofs.Meeting.{one_digit}
use Rattle.shape.proofs.meets_code.Goals as goal

pub returns-in-1 : goal.returns-in-1
unfolding code_of shape_by meets
returns-in-1 c = rw c.in-1.is

pub returns-in-2 : goal.returns-in-2
unfolding code_of shape_by meets
returns-in-2 c = rw c.in-2.is

pub returns-in-3 : goal.returns-in-3
unfolding code_of shape_by meets
returns-in-3 c = rw c.in-3.is

pub returns-in-4 : goal.returns-in-4
unfolding code_of shape_by meets
returns-in-4 c = rw c.in-4.is c.meets_blocks.ensures

pub returns-in-20 : goal.returns-in-20
unfolding code_of shape_by meets
returns-in-20 c = rw c.in-20.is

pub returns-in-30 : goal.returns-in-30
unfolding code_of shape_by meets
returns-in-30 c = rw c.in-30.is

pub returns-in-40 : goal.returns-in-40
unfolding code_of shape_by meets
returns-in-40 c = rw c.in-40.is c.meets_digits.ensures

pub returns-in-41 : goal.returns-in-41
unfolding code_of shape_by meets
returns-in-41 c = rw c.in-41.is c.meets_digits-in-41.ensures

pub returns-in-50 : goal.returns-in-50
unfolding code_of shape_by meets
returns-in-50 c = rw c.in-50.is c.meets_hex.ensures

pub returns-in-60 : goal.returns-in-60
unfolding code_of shape_by meets
returns-in-60 c = rw c.in-60.is c.meets_qos.ensures

pub returns-in-70 : goal.returns-in-70
unfolding code_of shape_by meets
returns-in-70 c = rw c.in-70.is c.meets_hex-in-70.ensures

pub returns-in-71 : goal.returns-in-71
unfolding code_of shape_by meets
returns-in-71 c = rw c.in-71.is

pub returns-in-72 : goal.returns-in-72
unfolding code_of shape_by meets
returns-in-72 c = rw c.in-72.is (c.meets_digits-in-72.ensures ∙ one_digit c.args.value.now)

pub returns-in_default : goal.returns-in_default
unfolding code_of meets
returns-in_default c = rw (no_shape _ c.in_default.in_default-own.rest)
