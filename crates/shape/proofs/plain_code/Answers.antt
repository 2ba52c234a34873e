-- The code of each number that the book names, and 0 for any other. Assumes nothing.
use Rattle.meaning.specs.Shapes.{plain_shape}
use Rattle.shape.specs.Codes.{code_of}
use Rattle.shape.proofs.Coded.{plain_other}
use mathlib.Core.Path.{sym}
use Rattle.shape.proofs.plain_code.Goals as goal

pub returns-in-1 : goal.returns-in-1
unfolding plain_shape code_of
returns-in-1 c = rw c.in-1.is

pub returns-in-2 : goal.returns-in-2
unfolding plain_shape code_of
returns-in-2 c = rw c.in-2.is

pub returns-in-3 : goal.returns-in-3
unfolding plain_shape code_of
returns-in-3 c = rw c.in-3.is

pub returns-in-4 : goal.returns-in-4
unfolding plain_shape code_of
returns-in-4 c = rw c.in-4.is

pub returns-in-6 : goal.returns-in-6
unfolding plain_shape code_of
returns-in-6 c = rw c.in-6.is

pub returns-in-7 : goal.returns-in-7
unfolding plain_shape code_of
returns-in-7 c = rw c.in-7.is

pub returns-in-8 : goal.returns-in-8
unfolding plain_shape code_of
returns-in-8 c = rw c.in-8.is

pub returns-in-9 : goal.returns-in-9
unfolding plain_shape code_of
returns-in-9 c = rw c.in-9.is

pub returns-in-18 : goal.returns-in-18
unfolding plain_shape code_of
returns-in-18 c = rw c.in-18.is

pub returns-in-24 : goal.returns-in-24
unfolding plain_shape code_of
returns-in-24 c = rw c.in-24.is

pub returns-in-25 : goal.returns-in-25
unfolding plain_shape code_of
returns-in-25 c = rw c.in-25.is

pub returns-in-30 : goal.returns-in-30
unfolding plain_shape code_of
returns-in-30 c = rw c.in-30.is

pub returns-in-31 : goal.returns-in-31
unfolding plain_shape code_of
returns-in-31 c = rw c.in-31.is

pub returns-in-32 : goal.returns-in-32
unfolding plain_shape code_of
returns-in-32 c = rw c.in-32.is

pub returns-in-40 : goal.returns-in-40
unfolding plain_shape code_of
returns-in-40 c = rw c.in-40.is

pub returns-in-41 : goal.returns-in-41
unfolding plain_shape code_of
returns-in-41 c = rw c.in-41.is

pub returns-in-42 : goal.returns-in-42
unfolding plain_shape code_of
returns-in-42 c = rw c.in-42.is

pub returns-in-43 : goal.returns-in-43
unfolding plain_shape code_of
returns-in-43 c = rw c.in-43.is

pub returns-in-44 : goal.returns-in-44
unfolding plain_shape code_of
returns-in-44 c = rw c.in-44.is

pub returns-in-45 : goal.returns-in-45
unfolding plain_shape code_of
returns-in-45 c = rw c.in-45.is

pub returns-in-46 : goal.returns-in-46
unfolding plain_shape code_of
returns-in-46 c = rw c.in-46.is

pub returns-in-47 : goal.returns-in-47
unfolding plain_shape code_of
returns-in-47 c = rw c.in-47.is

pub returns-in-48 : goal.returns-in-48
unfolding plain_shape code_of
returns-in-48 c = rw c.in-48.is

pub returns-in-49 : goal.returns-in-49
unfolding plain_shape code_of
returns-in-49 c = rw c.in-49.is

pub returns-in-60 : goal.returns-in-60
unfolding plain_shape code_of
returns-in-60 c = rw c.in-60.is

pub returns-in-61 : goal.returns-in-61
unfolding plain_shape code_of
returns-in-61 c = rw c.in-61.is

pub returns-in_default : goal.returns-in_default
returns-in_default c = sym (plain_other _ c.in_default.in_default-own.rest)
