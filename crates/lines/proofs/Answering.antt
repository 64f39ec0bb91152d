-- A line and its answer: the tests of the definitions, in the order of the code.
-- Assumes nothing.
use Prim.Native.Nat.{ℕ, suc, ◌+◌, ◌-◌, ◌≤◌, ◌<◌}
use native.Mathlib.Omega.{arith}
use mathlib.Core.Path.{◌≡◌, refl, sym, ◌∙◌, ap, subst}
use mathlib.Core.Bool.{Bool, true, false, cond, ◌&&◌}
use mathlib.Core.List.{[], ◌∷◌}
use lib.ListN.{length, take, drop, get_or, length-append, length-take, drop_of_length-le}
use lib.Dec.{eqb}
use borrow.Author.Tests.{lt-ltb, le-ltb}
use Rattle.std.specs.Prelude.{Option, Some, None, option_map, option_and_then, unwrap_or, MatchOption}
use Rattle.std.specs.Cmp.Lexicographic.{pointwise}
use Rattle.std.specs.Borrow.{Bor}
use Rattle.std.proofs.Common.{drop-cons}
use Rattle.lists.specs.Bytes.{Bytes, first_at}
use Rattle.script.specs.Words.{trimmed, first_word, after_word}
use Rattle.script.specs.Commands.{verb_of, shape_of, Reading, read_words}
use Rattle.script.specs.declared.Verb.{Verb}
use Rattle.script.proofs.Lines.{after_word_length}
use Rattle.script.proofs.Taking.{read_words_len}
use Rattle.volume.specs.declared.Volume.{Volume}
use Rattle.lists.proofs.Copies.{copied_over}
use Rattle.script.specs.Text.{text}
use Rattle.lines.specs.Answers.{Adds, Said, saying, malformed}
use Rattle.lines.specs.declared.text.Text.{Text}
use Rattle.lines.specs.Lines.{without_return, is_skipped, words_in, commanded, ended, answered, Responds, Replies}
use Rattle.lines.proofs.Texts.{stands_after}

-- ---- the carriage return

-- the last byte is the list that is left
last_left : (l : Bytes) (i : ℕ) → i + 1 ≡ length l → drop i l ≡ get_or l i 0 ∷ []
last_left l i e =
    let h : i < length l = omega arith in
    let k : length l ≤ suc i = omega arith in
    drop-cons l i 0 h ∙ ap (λ (t : Bytes). get_or l i 0 ∷ t) (drop_of_length-le l k)

ends_so : (l : Bytes) → pointwise eqb (drop (length l - 1) l) (13 ∷ []) ≡ eqb (get_or l (length l - 1) 0) 13
ends_so [] = refl
ends_so (x ∷ s) = ap (λ (t : Bytes). pointwise eqb t (13 ∷ [])) (last_left (x ∷ s) (length (x ∷ s) - 1) (omega arith)) ∙ and_true (eqb (get_or (x ∷ s) (length (x ∷ s) - 1) 0) 13)
  where
    and_true : (t : Bool) → (t && true) ≡ t
    and_true true = refl
    and_true false = refl

abbrev pub Stripped : Bytes → Option (Bor Bytes) → Type 0
Stripped l r =
    MatchOption r (pointwise eqb (drop (length l - 1) l) (13 ∷ []) ≡ false)
    (λ (x : Bor Bytes). (pointwise eqb (drop (length l - 1) l) (13 ∷ []) ≡ true) × (x.now ≡ take (length l - 1) l) × (length x.now + 1 ≡ length l))

pub stripped : (line : Bor Bytes) (r : Option (Bor Bytes)) → Stripped line.now r → (unwrap_or r line).now ≡ without_return line.now
unfolding without_return
stripped line None h = let e = sym (ends_so line.now) ∙ h in rw e
stripped line (Some x) h = let e = sym (ends_so line.now) ∙ h.0 in rw e h.1

-- it is shorter by a byte at most
without_return_bounds : (l : Bytes) → (length (without_return l) ≤ length l) × (length l - 1 ≤ length (without_return l))
unfolding without_return
without_return_bounds l = go (eqb (get_or l (length l - 1) 0) 13)
  where
    go : (t : Bool) → (length (cond t (take (length l - 1) l) l) ≤ length l) × (length l - 1 ≤ length (cond t (take (length l - 1) l) l))
    go true = let k = length-take (length l - 1) l in (omega arith, omega arith)
    go false = (omega arith, omega arith)

pub without_return_length : (l : Bytes) → length (without_return l) ≤ length l
without_return_length l = (without_return_bounds l).0

-- ---- the words

module _ (l : Bytes) where
  pub overlong : 131072 < length l → words_in l ≡ None
  unfolding words_in
  overlong h = rw (lt-ltb _ _ h)

  pub words_are : length l ≤ 131072 → (w rest : Bytes) → w ≡ first_word l → rest ≡ after_word l
      → option_and_then (λ (verb : Verb). option_map (λ (p : Reading). (verb, p)) (read_words (shape_of verb) rest)) (verb_of w) ≡ words_in l
  unfolding words_in
  words_are h w rest e f = rw (le-ltb _ _ h, e, f)

  -- the other way round
  pub words_given : (w : Verb × Reading) → words_in l ≡ Some w → read_words (shape_of w.0) (after_word l) ≡ Some w.1
  unfolding words_in
  words_given w e = go _ (verb_of (first_word l)) e
    where
      read : (verb : Verb) (r : Option Reading) → read_words (shape_of verb) (after_word l) ≡ r → option_map (λ (p : Reading). (verb, p)) r ≡ Some w
          → read_words (shape_of w.0) (after_word l) ≡ Some w.1
      read verb None q e = absurd cc
      read verb (Some p) q e = let same : ◌≡◌ {A = Verb × Reading} (verb, p) w = cc in subst (λ (x : Verb × Reading). read_words (shape_of x.0) (after_word l) ≡ Some x.1) same q

      go : (t : Bool) (o : Option Verb) → cond t None (option_and_then (λ (verb : Verb). option_map (λ (p : Reading). (verb, p)) (read_words (shape_of verb) (after_word l))) o) ≡ Some w
          → read_words (shape_of w.0) (after_word l) ≡ Some w.1
      go true o e = absurd cc
      go false None e = absurd cc
      go false (Some verb) e = read verb (read_words (shape_of verb) (after_word l)) refl e

  -- their bytes are no more than the line has
  pub words_len : (w : Verb × Reading) → words_in l ≡ Some w → w.1.args.len ≤ length l
  words_len w e = let k = read_words_len (shape_of w.0) (after_word l) w.1 (words_given w e) in omega (arith, k, after_word_length l)

-- ---- the answer

pub empty_skipped : is_skipped [] ≡ true
unfolding is_skipped first_word trimmed first_at
empty_skipped = refl

module _ (v : Volume) (line l : Bytes) (e : l ≡ without_return line) where
  pub skips : is_skipped l ≡ true → answered v line ≡ saying [] v
  unfolding answered
  skips h = let k : is_skipped (without_return line) ≡ true = sym (ap is_skipped e) ∙ h in rw k

  pub answers : is_skipped l ≡ false → answered v line ≡ ended (commanded v l)
  unfolding answered
  answers h = let k : is_skipped (without_return line) ≡ false = sym (ap is_skipped e) ∙ h in rw k (ap (λ (x : Bytes). ended (commanded v x)) (sym e))

pub empty_stays : without_return [] ≡ []
unfolding without_return
empty_stays = refl

-- an empty line, which the last byte of an input leaves where it is a newline
pub answers_none : (v : Volume) → answered v [] ≡ saying [] v
answers_none v = skips v [] [] (sym empty_stays) empty_skipped

-- of a line over the limit, also without its carriage return, no more matters than whether it is skipped
module _ (v : Volume) where
  answers_overlong : (l : Bytes) → 131073 < length l → answered v l ≡ cond (is_skipped (without_return l)) (saying [] v) (ended (malformed v))
  unfolding answered commanded
  answers_overlong l h = rw (overlong (without_return l) (omega (arith, (without_return_bounds l).1)))

  pub overlong_alike : (k l : Bytes) → 131073 < length k → 131073 < length l → is_skipped (without_return k) ≡ is_skipped (without_return l) → answered v k ≡ answered v l
  overlong_alike k l g h e = answers_overlong k g ∙ ap (λ (t : Bool). cond t (saying [] v) (ended (malformed v))) e ∙ sym (answers_overlong l h)

-- a newline after what is said
pub then_ended : (a b c : Text) (v : Volume) (s : Said) → Responds a b v s → Adds b c (text "\n") → Replies a c v (ended s)
then_ended a b c v s h k =
    let t = (ended s).said in
    let l = length-append s.said (text "\n") in
    let f : length t ≤ length a.out.now = omega (arith, h.1.room) in
    record { volume = h.0; buffer = k.buffer ∙ h.1.buffer; len = omega (arith, h.1.len, k.len); out = stands_after h.1 k ∙ copied_over a.out.now t f; room = f }
