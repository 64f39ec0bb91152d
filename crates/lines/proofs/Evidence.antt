-- `error 18 EXDEV` is said exactly to a line that makes a request refused with 18: of all answers it alone begins as an error and ends as EXDEV does, and a line is answered
-- as its request is. Assumes nothing.
use Prim.Native.Nat.{ℕ}
use native.Mathlib.Omega.{arith}
use mathlib.Core.Path.{◌≡◌, refl, sym, ◌∙◌, ap, subst}
use mathlib.Core.Logic.{◌≢◌, ◌⊎◌, inl, inr, ◌↔◌}
use mathlib.Core.Bool.{Bool, true, false, cond}
use Rattle.std.specs.Prelude.{Option, Some, None}
use mathlib.Core.List.{[], ◌∷◌, ◌++◌, append_cancel_right}
use lib.ListN.{get_or}
use Rattle.lists.specs.Bytes.{Bytes, ByteList}
use Rattle.lists.proofs.Slots.{by_test, by_cond}
use Rattle.fscrypt.specs.Cipher.{fscrypt}
use Rattle.fscrypt.proofs.Lawfulness.{fscrypt_lawful}
use Rattle.volume.specs.Request.{Request, lends, Answer, refused, done, created, at, policy_is, shown, Outcome}
use Rattle.volume.specs.Sound.{Sound}
use Rattle.volume.specs.PolicyClause.{GivesRefusal}
use Rattle.volume.specs.declared.Volume.{Volume}
use Rattle.volume.proofs.Soundness.{sound_kept}
use Rattle.volume.proofs.Leaves.{leaves}
use Rattle.volume.proofs.PolicyClause.{policy_clause}
use Rattle.script.specs.Text.{text}
use Rattle.script.specs.Numbers.{last_digits, decimal}
use Rattle.lines.specs.Answers.{errno_name, error_text, shown_text, answer_text, Said, saying, told}
use Rattle.lines.specs.Lines.{answers_block, told_to, without_return, is_skipped, asked, commanded, ended, answered}
use Rattle.lines.specs.Evidence.{request_in, Evidence}
use Rattle.lines.proofs.TypedLines.{TypedIn, typed_in}
use Rattle.lines.proofs.OneLine.{Printing, prints, no_newline, last_after, last_append, named, answer}

-- ---- the number is read off the text

number_read : (n : ℕ) → error_text n ≡ text "error 18 EXDEV" → n ≡ 18
unfolding error_text
number_read n h =
    let tail = text " " ++ text (errno_name n) in
    (named n).1 (sym (last_append 0 (text "error ") (decimal n ++ tail) ∙ last_append 32 (decimal n) tail) ∙ ap (last_after 0) h)

-- a text that does not begin with e, as `ok` and `malformed` do not
other_start : (b : ℕ) (t : Bytes) → b ≢ 101 → b ∷ t ≡ text "error 18 EXDEV" → ⊥
other_start b t ne h = ne (ap (λ (l : Bytes). get_or l 0 0) h)

no_error : (t : Bytes) → 111 ∷ t ≡ text "error 18 EXDEV" → ⊥
no_error t = other_start 111 t (omega arith)

by_text : (block : Bool) (a : Answer) (b : Bytes) → (answer_text block a b ≡ text "error 18 EXDEV") ↔ (a ≡ refused 18)
unfolding answer_text shown_text error_text errno_name decimal last_digits
by_text block a b = (read block a, λ h. ap (λ (x : Answer). answer_text block x b) h ∙ written)
  where
    written : answer_text block (refused 18) b ≡ text "error 18 EXDEV"
    written = refl

    read : (t : Bool) (x : Answer) → answer_text t x b ≡ text "error 18 EXDEV" → x ≡ refused 18
    read t (refused n) h = ap refused (number_read n h)
    read true done h = absurd (no_error _ h)
    read false done h = absurd (no_error _ h)
    read t (created i e) h = absurd (no_error _ h)
    read t (at e) h = absurd (no_error _ h)
    read t (policy_is p) h = absurd (no_error _ h)
    read t (shown s) h = absurd (no_error _ h)

-- ---- a line is answered as its request is

-- what is answered, and the request: nothing and None where the line is skipped, else what is said to the request, and a newline
data Answers (v : Volume) (x : Said) (o : Option Request) : Type 0 where
  skipped : x ≡ saying [] v → o ≡ None → Answers v x o
  requested : x ≡ ended (told_to v o) → Answers v x o

by_request : (v : Volume) (line : Bytes) → answered v line ≡ cond (is_skipped (without_return line)) (saying [] v) (ended (told_to v (request_in line)))
unfolding answered commanded request_in
by_request v line = go (is_skipped l)
  where
    l : Bytes
    l = without_return line

    go : (skip : Bool) → cond skip (saying [] v) (ended (told_to v (asked l))) ≡ cond skip (saying [] v) (ended (told_to v (cond skip None (asked l))))
    go true = refl
    go false = refl

skipped_none : (line : Bytes) → is_skipped (without_return line) ≡ true → request_in line ≡ None
unfolding request_in
skipped_none line h = rw h

answers : (v : Volume) (line : Bytes) → Answers v (answered v line) (request_in line)
answers v line =
    by_test (is_skipped (without_return line))
    (λ h. skipped (by_request v line ∙ ap (λ (t : Bool). cond t (saying [] v) (ended (told_to v (request_in line)))) h) (skipped_none line h))
    (λ h. requested (by_request v line ∙ ap (λ (t : Bool). cond t (saying [] v) (ended (told_to v (request_in line)))) h))

-- ---- a line leaves a sound volume sound

told_sound : (v : Volume) → Sound v → (o : Option Request) → TypedIn o → Sound (told_to v o).volume
told_sound v s None t = s
told_sound v s (Some r) t = sound_kept fscrypt fscrypt_lawful v s r t

stays_sound : (v : Volume) → Sound v → (line : Bytes) → ByteList line → Sound (answered v line).volume
stays_sound v s line h =
    let P : Said → Type 0 = λ x. Sound x.volume in
    subst P (sym (by_request v line))
    (by_cond P (is_skipped (without_return line)) (saying [] v) (ended (told_to v (request_in line))) (λ q. s) (λ q. told_sound v s (request_in line) (typed_in line h)))

-- ---- an answer is one line

told_prints : (v : Volume) (o : Option Request) → Printing (told_to v o).said
told_prints v None = prints refl
told_prints v (Some r) = answer (answers_block (lends r)) _ _

one_line : {v : Volume} {x : Said} {o : Option Request} → Answers v x o → (x.said ≡ []) ⊎ ((t : Bytes) × ((i : ℕ) → get_or t i 0 ≢ 10) × (x.said ≡ t ++ text "\n"))
one_line (skipped e n) = inl (ap (λ (y : Said). y.said) e)
one_line {v} {x} {o} (requested e) = inr ((told_to v o).said, no_newline _ (told_prints v o), ap (λ (y : Said). y.said) e)

-- ---- what the text proves

-- the line says it, and the request is refused so
abbrev Says18 : Said → Type 0
Says18 x = x.said ≡ text "error 18 EXDEV\n"

abbrev Refused18 : Volume → Option Request → Type 0
Refused18 v o = (r : Request) × (o ≡ Some r) × GivesRefusal fscrypt v r

request_read : (v : Volume) (o : Option Request) → (told_to v o).said ≡ text "error 18 EXDEV" → Refused18 v o
request_read v None h = absurd (other_start 109 _ (omega arith) h)
request_read v (Some r) h = (r, refl, (by_text _ _ _).0 h)

module _ (v : Volume) {x : Said} {o : Option Request} where
  line_read : Answers v x o → Says18 x → Refused18 v o
  line_read (skipped e n) h = let z = ap (λ (l : Bytes). get_or l 0 0) (sym (ap (λ (y : Said). y.said) e) ∙ h) in absurd (omega (arith, z))
  line_read (requested e) h = request_read v _ (append_cancel_right _ (text "error 18 EXDEV") (text "\n") (sym (ap (λ (y : Said). y.said) e) ∙ h))

  -- a request that is refused so is answered so, and leaves the volume
  line_said : (r : Request) → GivesRefusal fscrypt v r → Answers v x o → o ≡ Some r → x ≡ saying (text "error 18 EXDEV\n") v
  line_said r h (skipped e n) q = let z : ◌≡◌ {A = ℕ} 0 1 = cc in absurd (omega arith)
  line_said r h (requested e) q =
      let block = answers_block (lends r) in
      e
      ∙ ap (λ (y : Option Request). ended (told_to v y)) q
      ∙ ap (λ (y : Outcome). ended (told block y)) ((leaves fscrypt).refused_all v r 18 h)
      ∙ ap (λ (t : Bytes). saying (t ++ text "\n") v) ((by_text block (refused 18) _).1 refl)

pub evidence : Evidence
evidence = record {
  by_request = by_request;
  stays_sound = stays_sound;
  one_line = λ v line. one_line (answers v line);
  by_text = by_text;
  by_line = λ v line. (line_read v (answers v line), λ d. ap (λ (y : Said). y.said) (line_said v d.0 d.2 (answers v line) d.1));
  misplaced = λ v line h.
      let d = line_read v (answers v line) h in
      let w = (((policy_clause fscrypt fscrypt_lawful).by_number v d.0).0 d.2).1 in
      (d.0, d.1, w, ap (λ (y : Said). y.volume) (line_said v d.0 d.2 (answers v line) d.1));
  on_sound = λ v s line h.
      let d = line_read v (answers v line) h in
      let w = (policy_clause fscrypt fscrypt_lawful).on_sound v s d.0 d.2 in
      (d.0, d.1, w.0, w.1, w.2);
}
