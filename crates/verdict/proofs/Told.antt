-- The laws of "the first that applies": what a refusal and a pass of the first do to the whole, and what a pass of the whole says of each.
-- Assumes nothing.
use mathlib.Core.Bool.{Bool, true, false}
use mathlib.Core.Path.{◌≡◌, refl}
use Rattle.verdict.specs.Told.{Line, Told, passed, refused, when, ◌or◌}

pub goes : (x y : Told) → x ≡ passed → x or y ≡ y
unfolding ◌or◌
goes x y e = rw e

pub stops : (x y : Told) (l : Line) → x ≡ refused l → x or y ≡ x
unfolding ◌or◌
stops x y l e = rw e

pub left : (x y : Told) → x or y ≡ passed → x ≡ passed
unfolding ◌or◌
left passed y e = refl
left (refused l) y e = e

pub right : (x y : Told) → x or y ≡ passed → y ≡ passed
unfolding ◌or◌
right passed y e = e
right (refused l) y e = cc

pub not_then : (test : Bool) (l : Line) → when test (refused l) ≡ passed → test ≡ false
not_then true l e = cc
not_then false l e = refl
