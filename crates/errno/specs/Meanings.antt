-- What the tables of Refusals.antt mean: which refusal a table comes to, and when it is passed. Proved in proofs/ChainMeanings.antt. Assumes nothing.
use Rattle.std.specs.Prelude.{◌≡◌, ◌↔◌, ◌⊎◌, Bool, true, false}
use Rattle.errno.specs.Refusals.{Checked, fine, refuse, number, ◌⇒◌, ◌>>◌, is_fine}
use Rattle.errno.specs.declared.Errno.{Errno}

pub record TableMeanings : Type 0 where
  -- a refusal is known by its number
  pub numbered : (e e' : Errno) → (number e ≡ number e') ↔ (e ≡ e')
  pub passed : (c : Checked) → (is_fine c ≡ true) ↔ (c ≡ fine)
  -- a line refuses where its test holds, with its own refusal, and not otherwise
  pub line_refuses : (t : Bool) (e e' : Errno) → ((t ⇒ e) ≡ refuse e') ↔ ((t ≡ true) × (e ≡ e'))
  pub line_passes : (t : Bool) (e : Errno) → ((t ⇒ e) ≡ fine) ↔ (t ≡ false)
  -- document 01: "earlier checks having passed": the first refusal counts, and what passes has passed every line
  pub table_refuses : (a b : Checked) (e : Errno) → (◌>>◌ a b ≡ refuse e) ↔ ((a ≡ refuse e) ⊎ ((a ≡ fine) × (b ≡ refuse e)))
  pub table_passes : (a b : Checked) → (◌>>◌ a b ≡ fine) ↔ ((a ≡ fine) × (b ≡ fine))
