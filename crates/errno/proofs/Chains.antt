-- Tables of checks: what a table comes to, by the equations of its lines; and what one that comes to `fine` has passed. Assumes nothing.
use mathlib.Core.Path.{◌≡◌, refl}
use mathlib.Core.Logic.{◌⊎◌, inr}
use mathlib.Core.Bool.{Bool, true, false, cond}
use Rattle.std.specs.Prelude.{⊤, Ok, Err}
use Rattle.errno.specs.Refusals.{Checked, fine, refuse, ◌⇒◌, ◌>>◌}
use Rattle.errno.specs.declared.Errno.{Errno}

-- ---- a table, line by line

-- a test that holds refuses, and one that fails passes
pub holds : (e : Errno) → (true ⇒ e) ≡ refuse e
unfolding ◌⇒◌
holds e = refl

pub fails : (e : Errno) → (false ⇒ e) ≡ fine
unfolding ◌⇒◌
fails e = refl

-- a line that refuses ends the table, and one that passes leaves the rest of it
pub ends : (e : Errno) (next : Checked) → ◌>>◌ (Err e) next ≡ refuse e
unfolding ◌>>◌
ends e next = refl

pub passes : (u : ⊤) (next : Checked) → ◌>>◌ (Ok u) next ≡ next
unfolding ◌>>◌
passes u next = refl

pub ruleset tables = (holds, fails, ends, passes)

-- a line as a case, by which the check follows code through a table by itself
pub line_case : (t : Bool) (e : Errno) (next : Checked) → ◌>>◌ (t ⇒ e) next ≡ cond t (refuse e) next
unfolding ◌>>◌ ◌⇒◌
line_case true e next = refl
line_case false e next = refl

-- of a result that the rest of the table comes to
pub skip : (t : Bool) (e : Errno) (next r : Checked) → t ≡ false → r ≡ next → r ≡ ◌>>◌ (t ⇒ e) next
unfolding ◌>>◌ ◌⇒◌
skip t e next r h k = rw h k

-- a table with one refusal comes to it, or passes
pub one_refusal : (t : Bool) (e : Errno) (next : Checked) → (next ≡ fine) ⊎ (next ≡ refuse e) → (◌>>◌ (t ⇒ e) next ≡ fine) ⊎ (◌>>◌ (t ⇒ e) next ≡ refuse e)
unfolding ◌>>◌ ◌⇒◌
one_refusal true e next o = inr refl
one_refusal false e next o = o

-- ---- a table that was passed

pub passed_test : (t : Bool) (e : Errno) (next : Checked) → ◌>>◌ (t ⇒ e) next ≡ fine → (t ≡ false) × (next ≡ fine)
unfolding ◌>>◌ ◌⇒◌
passed_test true e next h = absurd cc
passed_test false e next h = (refl, h)
