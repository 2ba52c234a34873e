-- The code of each number that the book names, and 0 for any other. Assumes nothing.
use Rattle.meaning.specs.Shapes.{gpp_shape}
use Rattle.shape.specs.Codes.{code_of}
use Rattle.shape.proofs.Coded.{gpp_other}
use mathlib.Core.Path.{sym}
use Rattle.shape.proofs.gpp_code.Goals as goal

pub returns-in-1 : goal.returns-in-1
unfolding gpp_shape code_of
returns-in-1 c = rw c.in-1.is

pub returns-in-2 : goal.returns-in-2
unfolding gpp_shape code_of
returns-in-2 c = rw c.in-2.is

pub returns-in-3 : goal.returns-in-3
unfolding gpp_shape code_of
returns-in-3 c = rw c.in-3.is

pub returns-in-4 : goal.returns-in-4
unfolding gpp_shape code_of
returns-in-4 c = rw c.in-4.is

pub returns-in-5 : goal.returns-in-5
unfolding gpp_shape code_of
returns-in-5 c = rw c.in-5.is

pub returns-in-6 : goal.returns-in-6
unfolding gpp_shape code_of
returns-in-6 c = rw c.in-6.is

pub returns-in-7 : goal.returns-in-7
unfolding gpp_shape code_of
returns-in-7 c = rw c.in-7.is

pub returns-in-8 : goal.returns-in-8
unfolding gpp_shape code_of
returns-in-8 c = rw c.in-8.is

pub returns-in-9 : goal.returns-in-9
unfolding gpp_shape code_of
returns-in-9 c = rw c.in-9.is

pub returns-in-10 : goal.returns-in-10
unfolding gpp_shape code_of
returns-in-10 c = rw c.in-10.is

pub returns-in-11 : goal.returns-in-11
unfolding gpp_shape code_of
returns-in-11 c = rw c.in-11.is

pub returns-in-12 : goal.returns-in-12
unfolding gpp_shape code_of
returns-in-12 c = rw c.in-12.is

pub returns-in-18 : goal.returns-in-18
unfolding gpp_shape code_of
returns-in-18 c = rw c.in-18.is

pub returns-in_default : goal.returns-in_default
returns-in_default c = sym (gpp_other _ c.in_default.in_default-own.rest)
