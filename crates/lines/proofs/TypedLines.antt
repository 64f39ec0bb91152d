-- The request that a line of bytes makes is typed: a descriptor has 8 bytes and a nonce 16, and all are bytes, since words are parts of the line and two hex digits are less
-- than 256. Assumes nothing.
use Prim.Native.Nat.{ℕ, ◌-◌, ◌+◌, ◌*◌, ◌≤◌}
use native.Mathlib.Omega.{arith}
use mathlib.Core.Path.{◌≡◌, refl, sym, ◌∙◌, ap, subst}
use mathlib.Core.List.{List, [], ◌∷◌}
use lib.ListN.{length, drop, take, get_or}
use lib.Dec.{leb, eqb}
use borrow.Author.Tests.{leb-true}
use Rattle.std.specs.Prelude.{Option, Some, None, option_and_then}
use Rattle.lists.specs.Bytes.{Bytes, ByteList, zeros, first_at}
use Rattle.lists.proofs.ByteStrings.{nil_bytes, cons_bytes, take_bytes, drop_bytes, zeros_bytes, length_zeros}
use Rattle.lists.proofs.Slots.{by_cond}
use Rattle.lists.proofs.Tests.{eqb-true, and_right}
use Rattle.volume.specs.Request.{Request, show, Typed}
use Rattle.script.specs.Words.{trimmed, first_word, after_word, is_blank, is_not_blank}
use Rattle.script.specs.Numbers.{is_digit}
use Rattle.script.specs.Strings.{is_lower_hex, is_upper_hex, hex_value, is_quoted, is_byte_string, from_hex, bytes_of}
use Rattle.script.specs.Commands.{no_args, taken_text, Reading, reading, shape_of, read_words}
use Rattle.script.specs.declared.Verb.{Verb}
use Rattle.script.specs.declared.Verb.TheVariants.{AddKey, RemoveKey, SetPolicy, GetPolicy, Create, Link, Rename, Exchange, Remove, Find, Show, Seal, Open}
use Rattle.script.specs.declared.Sort.{Sort}
use Rattle.script.specs.declared.Sort.TheVariants.{First, Second, Text, Descriptor, Nonce, Size}
use Rattle.script.specs.declared.Args.{Args}
use Rattle.script.proofs.Taking.{taken_gives, Keeps, read_keeps}
use Rattle.lines.specs.Lines.{entry, request_of, without_return, is_skipped, words_in, asked}
use Rattle.lines.specs.Evidence.{request_in}
use Rattle.lines.proofs.Answering.{words_given}

-- ---- the bytes of words

hex_value_lem : (b : ℕ) → hex_value b ≤ 15
unfolding hex_value
hex_value_lem b =
    by_cond P (is_digit b) (b - 48) _ (λ h. let k = leb-true b 57 (and_right (leb 48 b) (leb b 57) h) in omega (arith, k)) (λ f.
    by_cond P (is_lower_hex b) (b - 87) _ (λ h. let k = leb-true b 102 (and_right (leb 97 b) (leb b 102) h) in omega (arith, k)) (λ g.
    by_cond P (is_upper_hex b) (b - 55) 0 (λ h. let k = leb-true b 70 (and_right (leb 65 b) (leb b 70) h) in omega (arith, k)) (λ e. omega arith)))
  where
    P : ℕ → Type 0
    P n = n ≤ 15

from_hex_lem : (s : Bytes) → ByteList (from_hex s)
unfolding from_hex
from_hex_lem [] = nil_bytes
from_hex_lem (a ∷ []) = nil_bytes
from_hex_lem (a ∷ b ∷ s) = cons_bytes (hex_value a * 16 + hex_value b) (from_hex s) (omega (arith, hex_value_lem a, hex_value_lem b)) (from_hex_lem s)

bytes_of_lem : (w : Bytes) → ByteList w → ByteList (bytes_of w)
unfolding bytes_of
bytes_of_lem w h = by_cond ByteList (is_quoted w) (drop 1 w) (from_hex w) (λ q. drop_bytes 1 w h) (λ q. from_hex_lem w)

first_word_lem : (s : Bytes) → ByteList s → ByteList (first_word s)
unfolding first_word trimmed
first_word_lem s h = take_bytes (first_at is_blank (trimmed s)) (trimmed s) (drop_bytes (first_at is_not_blank s) s h)

after_word_lem : (s : Bytes) → ByteList s → ByteList (after_word s)
unfolding after_word trimmed
after_word_lem s h = drop_bytes (first_at is_blank (trimmed s)) (trimmed s) (drop_bytes (first_at is_not_blank s) s h)

without_return_lem : (s : Bytes) → ByteList s → ByteList (without_return s)
unfolding without_return
without_return_lem s h = by_cond ByteList (eqb (get_or s (length s - 1) 0) 13) (take (length s - 1) s) s (λ q. take_bytes (length s - 1) s h) (λ q. h)

-- ---- a line's arguments

record Sized (a : Args) : Type 0 where
  descriptor_length : length a.descriptor ≡ 8
  descriptor_bytes : ByteList a.descriptor
  nonce_length : length a.nonce ≡ 16
  nonce_bytes : ByteList a.nonce

-- with the same descriptor and nonce
alike : {a b : Args} → a.descriptor ≡ b.descriptor → a.nonce ≡ b.nonce → Sized a → Sized b
alike d n h = record {
  descriptor_length = sym (ap length d) ∙ h.descriptor_length;
  descriptor_bytes = subst ByteList d h.descriptor_bytes;
  nonce_length = sym (ap length n) ∙ h.nonce_length;
  nonce_bytes = subst ByteList n h.nonce_bytes;
}

-- a word that is taken keeps them, and all words do
record Read (p : Reading) (rest : Bytes) : Type 0 where
  args : Sized p.args
  bytes : ByteList p.bytes
  line : ByteList rest

text_bytes : (t : Bytes) (s : Sort) (w : Bytes) → ByteList w → ByteList t → ByteList (taken_text t s w)
unfolding taken_text
text_bytes t Text w b h = bytes_of_lem w b
text_bytes t First w b h = h
text_bytes t Second w b h = h
text_bytes t Descriptor w b h = h
text_bytes t Nonce w b h = h
text_bytes t Size w b h = h

word_read : Keeps Read
word_read p line h s a e =
    let b = first_word_lem line h.line in
    let w = first_word line in
    record {
      args = taken_gives Sized p.args w (record {
        first = λ n. alike refl refl h.args;
        second = λ n. alike refl refl h.args;
        text_is = λ t. alike refl refl h.args;
        descriptor = λ t. record {
          descriptor_length = eqb-true (and_right (is_byte_string w) (eqb (length (bytes_of w)) 8) t);
          descriptor_bytes = bytes_of_lem w b;
          nonce_length = h.args.nonce_length;
          nonce_bytes = h.args.nonce_bytes;
        };
        no_nonce = record { descriptor_length = h.args.descriptor_length; descriptor_bytes = h.args.descriptor_bytes; nonce_length = length_zeros 16; nonce_bytes = zeros_bytes 16 };
        nonce = λ t. record {
          descriptor_length = h.args.descriptor_length;
          descriptor_bytes = h.args.descriptor_bytes;
          nonce_length = eqb-true (and_right (is_byte_string w) (eqb (length (bytes_of w)) 16) t);
          nonce_bytes = bytes_of_lem w b;
        };
      }) s a e;
      bytes = text_bytes p.bytes s w b h.bytes;
      line = after_word_lem line h.line;
    }

all_read : (shape : List Sort) (line : Bytes) (p : Reading) → ByteList line → read_words shape line ≡ Some p → Sized p.args × ByteList p.bytes
unfolding read_words
all_read shape line p h e =
    let r = (read_keeps Read word_read shape (reading no_args []) p line (record {
      args = record { descriptor_length = length_zeros 8; descriptor_bytes = zeros_bytes 8; nonce_length = length_zeros 16; nonce_bytes = zeros_bytes 16 };
      bytes = nil_bytes;
      line = h;
    }) e).1 in
    (r.args, r.bytes)

-- ---- its request

abbrev pub TypedIn : Option Request → Type 0
TypedIn None = Unit {0}
TypedIn (Some r) = Typed r

typed_of : (verb : Verb) (a : Args) (t : Bytes) → Sized a → ByteList t → TypedIn (request_of verb a t)
typed_of AddKey a t h b = (h.descriptor_length, h.descriptor_bytes, b)
typed_of RemoveKey a t h b = (h.descriptor_length, h.descriptor_bytes)
typed_of SetPolicy a t h b = (b, h.nonce_length, h.nonce_bytes)
typed_of GetPolicy a t h b = tt
typed_of Create a t h b = (b, h.nonce_length, h.nonce_bytes)
typed_of Link a t h b = b
typed_of Rename a t h b = b
typed_of Exchange a t h b = tt
typed_of Remove a t h b = tt
typed_of Find a t h b = b
typed_of Show a t h b = by_cond TypedIn (leb a.second 4096) (Some (show (entry a.first) (zeros a.second))) None (λ q. zeros_bytes a.second) (λ q. tt)
typed_of Seal a t h b = b
typed_of Open a t h b = b

typed_asked : (l : Bytes) → ByteList l → TypedIn (asked l)
typed_asked l h = go (words_in l) refl
  where
    go : (o : Option (Verb × Reading)) → words_in l ≡ o → TypedIn (option_and_then (λ (w : Verb × Reading). request_of w.0 w.1.args w.1.bytes) o)
    go None e = tt
    go (Some w) e = let r = all_read (shape_of w.0) (after_word l) w.1 (after_word_lem l h) (words_given l w e) in typed_of w.0 w.1.args w.1.bytes r.0 r.1

pub typed_in : (line : Bytes) → ByteList line → TypedIn (request_in line)
unfolding request_in
typed_in line h =
    let l = without_return line in
    by_cond TypedIn (is_skipped l) None (asked l) (λ q. tt) (λ q. typed_asked l (without_return_lem line h))
