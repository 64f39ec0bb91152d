-- Any buffers: what the test of their room means, and the outcome in each case.
-- Assumes nothing.
use Prim.Native.Nat.{ℕ, ◌+◌, ◌*◌, ◌≤◌}
use mathlib.Core.Path.{◌≡◌, sym, ◌∙◌, ap}
use mathlib.Core.Bool.{true, false}
use mathlib.Core.List.{◌++◌}
use mathlib.Core.Logic.{◌↔◌}
use lib.ListN.{length, take, drop}
use lib.Seq.{length-take-le}
use lib.Dec.{leb}
use borrow.Author.Tests.{leb-true, le-leb}
use Rattle.std.specs.Prelude.{Some}
use Rattle.lists.specs.Bytes.{Bytes, zeros, laid_over}
use Rattle.lists.proofs.ByteStrings.{length_zeros}
use Rattle.lists.proofs.Predicates.{and_yes}
use Rattle.lists.proofs.Tests.{and_left, and_right}
use Rattle.volume.specs.declared.Volume.{Volume}
use Rattle.lines.specs.Lines.{Replies, answered, HasRoom, has_room, LineOutcome, line_outcome, room_outcome, no_room_outcome, answered_in}
use Rattle.lines.specs.declared.LineAnswer.{LineAnswer}
use Rattle.lines.specs.declared.text.Text.{Text}

-- ---- the test

module _ (line payload out : ℕ) where
  -- it says no more and no less than that there is room
  pub room_exactly : (has_room line payload out ≡ true) ↔ HasRoom line payload out
  room_exactly = (
    λ h. (leb-true _ _ (and_left (leb line payload) (leb (1000 + 2 * line) out) h), leb-true _ _ (and_right (leb line payload) (leb (1000 + 2 * line) out) h)),
    λ h. and_yes _ _ (le-leb _ _ h.0) (le-leb _ _ h.1),
  )

-- ---- the outcome

module _ (v : Volume) (line payload out : Bytes) where
  pub no_room : has_room (length line) (length payload) (length out) ≡ false → no_room_outcome v payload out ≡ answered_in v line payload out
  unfolding answered_in
  no_room h = rw h

  pub room : has_room (length line) (length payload) (length out) ≡ true → room_outcome (answered v line) (length line) payload out ≡ answered_in v line payload out
  unfolding answered_in
  room h = rw h

  -- what a caller has then
  pub replied_in : (b d : Bytes) (r : LineAnswer) → HasRoom (length line) (length payload) (length out) → line_outcome r b d ≡ answered_in v line payload out
      → (r.volume ≡ (answered v line).volume) × (r.len ≡ Some (length (answered v line).said)) × (d ≡ laid_over out (answered v line).said) × (b ≡ laid_over payload (zeros (length line)))
  replied_in b d r h e =
      let f : line_outcome r b d ≡ room_outcome (answered v line) (length line) payload out = e ∙ sym (room ((room_exactly (length line) (length payload) (length out)).1 h)) in (
        ap (λ (o : LineOutcome). o.answer.volume) f,
        ap (λ (o : LineOutcome). o.answer.len) f,
        ap (λ (o : LineOutcome). o.out) f,
        ap (λ (o : LineOutcome). o.payload) f,
      )

-- with room: what is said, and the zeros
module _ (v : Volume) (line payload : Bytes) {a t : Text} {w : Volume} {b d : Bytes} where
  pub done_in : has_room (length line) (length payload) (length a.out.now) ≡ true → Replies a t w (answered v line) → d ≡ t.out.now
      → b ≡ zeros (length (take (length line) payload)) → line_outcome (record { len = Some t.len; volume = w }) (b ++ drop (length line) payload) d ≡ answered_in v line payload a.out.now
  done_in h k f e = same k.len k.volume over (f ∙ k.out) ∙ room v line payload a.out.now h
    where
      fits : length line ≤ length payload
      fits = ((room_exactly (length line) (length payload) (length a.out.now)).0 h).0

      over : b ++ drop (length line) payload ≡ laid_over payload (zeros (length line))
      over =
          ap (λ (x : Bytes). x ++ drop (length line) payload) (e ∙ ap zeros (length-take-le (length line) payload fits))
          ∙ ap (λ (m : ℕ). zeros (length line) ++ drop m payload) (sym (length_zeros (length line)))

      same : {m n : ℕ} {u w : Volume} {x y c d : Bytes} → m ≡ n → u ≡ w → x ≡ y → c ≡ d → line_outcome (record { len = Some m; volume = u }) x c ≡ line_outcome (record { len = Some n; volume = w }) y d
      same p q r s = cc
