-- Words read one after the other: the next word of a line, what the words leave in a buffer, what each word keeps, and how many bytes there are.
-- Assumes nothing.
use Rattle.std.proofs.Common.{◌≡◌, refl, ap, subst, ◌∙◌, ℕ, suc, ◌+◌, ◌≤◌, ◌<◌, Bool, true, false, cond, List, [], ◌∷◌, length, get_or, drop, drop-cons, add-one, Option, Some, None, is_some, option_map, option_and_then, unwrap_or, sym, arith}
use Rattle.std.specs.Option.{option_and}
use Rattle.lists.specs.Bytes.{Bytes, same, is_empty, zeros}
use Rattle.script.specs.Text.{text}
use Rattle.script.specs.Words.{first_word, after_word}
use Rattle.script.specs.Numbers.{number_of}
use Rattle.script.specs.Strings.{is_byte_string, bytes_of}
use Rattle.script.specs.Commands.{with_first, with_second, with_len, with_descriptor, with_nonce, is_bytes, bytes_in, no_args, taken, taken_text, Reading, reading, read_in, next, read_on, read_words, laid_text, is_taken, left_in}
use Rattle.script.specs.declared.Sort.{Sort}
use Rattle.script.specs.declared.Sort.TheVariants.{First, Second, Text, Descriptor, Nonce, Size}
use Rattle.script.specs.declared.Args.{Args}
use Rattle.script.proofs.Hex.{bytes_of_length}
use Rattle.script.proofs.Lines.{first_word_length, after_word_length}

-- a word more, the one at position i
pub read_next : (p q : Reading) (shape : List Sort) (i : ℕ) (d : Sort) (line w rest : Bytes) → i < length shape → w ≡ first_word line → rest ≡ after_word line
    → Some q ≡ next p (get_or shape i d) w → read_on p (drop i shape) line ≡ read_on q (drop (i + 1) shape) rest
read_next p q shape i d line w rest h e f g =
    let here : read_on p (drop i shape) line ≡ option_and_then (λ (r : Reading). read_on r (drop (suc i) shape) (after_word line)) (next p (get_or shape i d) (first_word line)) = rw (drop-cons shape i d h) in
    let more : Some q ≡ next p (get_or shape i d) (first_word line) = g ∙ ap (next p (get_or shape i d)) e in
    here ∙ rw (← more, ← f, add-one)

-- a word that is not what it should be
pub read_stop : (p : Reading) (shape : List Sort) (i : ℕ) (d : Sort) (line w : Bytes) → i < length shape → w ≡ first_word line
    → None ≡ next p (get_or shape i d) w → read_on p (drop i shape) line ≡ None
read_stop p shape i d line w h e g =
    let here : read_on p (drop i shape) line ≡ option_and_then (λ (r : Reading). read_on r (drop (suc i) shape) (after_word line)) (next p (get_or shape i d) (first_word line)) = rw (drop-cons shape i d h) in
    let no_more : None ≡ next p (get_or shape i d) (first_word line) = g ∙ ap (next p (get_or shape i d)) e in
    here ∙ rw (← no_more)

-- what has been read so far, or none, read on
abbrev pub onward : Bytes → List Sort → Bytes → Option Args → Option Reading
onward buffer shape line o = option_and_then (λ (a : Args). read_on (read_in buffer a) shape line) o

-- a word more, whether those before it are what they should be or not
pub onward_next : (o more : Option Args) (shape : List Sort) (i : ℕ) (d : Sort) (line w rest buffer after : Bytes) → i < length shape → w ≡ first_word line → rest ≡ after_word line
    → option_map (read_in after) more ≡ next (read_in buffer (unwrap_or o no_args)) (get_or shape i d) w
    → onward after (drop (i + 1) shape) rest (option_and o more) ≡ onward buffer (drop i shape) line o
onward_next None more shape i d line w rest buffer after h e f g = refl
onward_next (Some a) None shape i d line w rest buffer after h e f g = sym (read_stop (read_in buffer a) shape i d line w h e g)
onward_next (Some a) (Some b) shape i d line w rest buffer after h e f g = sym (read_next (read_in buffer a) (read_in after b) shape i d line w rest h e f g)

-- ---- what the words leave in a buffer

is_mapped : {A B : Type 0} (f : A → B) (o : Option A) → is_some (option_map f o) ≡ is_some o
is_mapped f None = refl
is_mapped f (Some x) = refl

-- a law for a reader of `is_taken`: whether a word is taken, whatever has been read before it
pub is_taken_after : (a : Args) (s : Sort) (w : Bytes) → is_some (taken a s w) ≡ is_taken s w
unfolding taken
is_taken_after a First w = is_mapped _ (number_of w) ∙ sym (is_mapped _ (number_of w))
is_taken_after a Second w = is_mapped _ (number_of w) ∙ sym (is_mapped _ (number_of w))
is_taken_after a Descriptor w = is_mapped _ (bytes_in 8 w) ∙ sym (is_mapped _ (bytes_in 8 w))
is_taken_after a Text w = by_case (is_byte_string w)
  where
    by_case : (t : Bool) → is_some (cond t (Some (with_len a (length (bytes_of w)))) None) ≡ is_some (cond t (Some (with_len no_args (length (bytes_of w)))) None)
    by_case true = refl
    by_case false = refl
is_taken_after a Nonce w = by_case (same w (text "-"))
  where
    by_case : (t : Bool) → is_some (cond t (Some (with_nonce a (zeros 16))) (option_map (with_nonce a) (bytes_in 16 w))) ≡ is_some (cond t (Some (with_nonce no_args (zeros 16))) (option_map (with_nonce no_args) (bytes_in 16 w)))
    by_case true = refl
    by_case false = is_mapped _ (bytes_in 16 w) ∙ sym (is_mapped _ (bytes_in 16 w))
is_taken_after a Size w = by_case (is_empty w)
  where
    by_case : (t : Bool) → is_some (cond t (Some (with_second a 255)) (option_map (with_second a) (number_of w))) ≡ is_some (cond t (Some (with_second no_args 255)) (option_map (with_second no_args) (number_of w)))
    by_case true = refl
    by_case false = is_mapped _ (number_of w) ∙ sym (is_mapped _ (number_of w))

-- the word at position i, which leaves the buffer `after`
pub left_next : (shape : List Sort) (i : ℕ) (d : Sort) (line w rest buffer after : Bytes) → i < length shape → w ≡ first_word line → rest ≡ after_word line
    → after ≡ cond (is_taken (get_or shape i d) w) (laid_text buffer (get_or shape i d) w) buffer
    → left_in after (drop (i + 1) shape) rest ≡ left_in buffer (drop i shape) line
left_next shape i d line w rest buffer after h e f k =
    let laid : Bytes → Bytes = λ x. cond (is_taken (get_or shape i d) x) (laid_text buffer (get_or shape i d) x) buffer in
    let here : left_in buffer (drop i shape) line ≡ left_in (laid (first_word line)) (drop (suc i) shape) (after_word line) = rw (drop-cons shape i d h) in
    rw (k, e, f, add-one i) (sym here)

-- ---- what a word comes to

-- a fact of arguments, of each way in which a word is taken
pub record EachWay (P : Args → Type 0) (a : Args) (w : Bytes) : Type 0 where
  pub first : (n : ℕ) → P (with_first a n)
  pub second : (n : ℕ) → P (with_second a n)
  pub text_is : is_byte_string w ≡ true → P (with_len a (length (bytes_of w)))
  pub descriptor : is_bytes 8 w ≡ true → P (with_descriptor a (bytes_of w))
  pub no_nonce : P (with_nonce a (zeros 16))
  pub nonce : is_bytes 16 w ≡ true → P (with_nonce a (bytes_of w))

module _ (P : Args → Type 0) where
  just : (a b : Args) → Some a ≡ Some b → P a → P b
  just a b e h = let same_args : a ≡ b = cc in subst P same_args h

  number_gives : (f : ℕ → Args) (o : Option ℕ) (b : Args) → option_map f o ≡ Some b → ((n : ℕ) → P (f n)) → P b
  number_gives f None b e h = absurd cc
  number_gives f (Some n) b e h = just (f n) b e (h n)

  bytes_give : (f : Bytes → Args) (n : ℕ) (w : Bytes) (b : Args) → option_map f (bytes_in n w) ≡ Some b → (is_bytes n w ≡ true → P (f (bytes_of w))) → P b
  bytes_give f n w b e h = by_case (is_bytes n w) refl e
    where
      by_case : (t : Bool) → is_bytes n w ≡ t → option_map f (cond t (Some (bytes_of w)) None) ≡ Some b → P b
      by_case true t g = just (f (bytes_of w)) b g (h t)
      by_case false t g = absurd cc

  either : (t : Bool) (x y : Option Args) (b : Args) → cond t x y ≡ Some b → (t ≡ true → x ≡ Some b → P b) → (y ≡ Some b → P b) → P b
  either true x y b e h k = h refl e
  either false x y b e h k = k e

  pub taken_gives : (a : Args) (w : Bytes) → EachWay P a w → (s : Sort) (b : Args) → taken a s w ≡ Some b → P b
  unfolding taken
  taken_gives a w h First b e = number_gives (with_first a) (number_of w) b e h.first
  taken_gives a w h Second b e = number_gives (with_second a) (number_of w) b e h.second
  taken_gives a w h Text b e = either (is_byte_string w) _ None b e (λ t g. just _ b g (h.text_is t)) (λ g. absurd cc)
  taken_gives a w h Descriptor b e = bytes_give (with_descriptor a) 8 w b e h.descriptor
  taken_gives a w h Nonce b e = either (same w (text "-")) _ _ b e (λ t g. just _ b g h.no_nonce) (λ g. bytes_give (with_nonce a) 16 w b g h.nonce)
  taken_gives a w h Size b e = either (is_empty w) _ _ b e (λ t g. just _ b g (h.second 255)) (λ g. number_gives (with_second a) (number_of w) b g h.second)

-- ---- what each word keeps, all words keep

-- a fact of what has been read, and of what is left of the line
module _ (P : Reading → Bytes → Type 0) where
  -- a word that is taken keeps it
  abbrev pub Keeps : Type 0
  Keeps = (p : Reading) (line : Bytes) → P p line → (s : Sort) (a : Args) → taken p.args s (first_word line) ≡ Some a
      → P (reading a (taken_text p.bytes s (first_word line))) (after_word line)

  -- then it holds of what all words come to, and of what is left after them
  pub read_keeps : Keeps → (shape : List Sort) (p q : Reading) (line : Bytes) → P p line → read_on p shape line ≡ Some q → (rest : Bytes) × P q rest
  read_keeps k [] p q line h e = by_case (is_empty (first_word line)) e
    where
      by_case : (t : Bool) → cond t (Some p) None ≡ Some q → (rest : Bytes) × P q rest
      by_case true f = let same_reading : p ≡ q = cc in (line, subst (λ (r : Reading). P r line) same_reading h)
      by_case false f = absurd cc
  read_keeps k (s ∷ shape) p q line h e =
      by_case (taken p.args s w) refl (λ (r : Reading) (l : P r (after_word line)) (f : read_on r shape (after_word line) ≡ Some q). read_keeps k shape r q (after_word line) l f) e
    where
      w : Bytes
      w = first_word line

      by_case : (o : Option Args) → taken p.args s w ≡ o
          → ((r : Reading) → P r (after_word line) → read_on r shape (after_word line) ≡ Some q → (rest : Bytes) × P q rest)
          → option_and_then (λ (r : Reading). read_on r shape (after_word line)) (option_map (λ (a : Args). reading a (taken_text p.bytes s w)) o) ≡ Some q
          → (rest : Bytes) × P q rest
      by_case None t more f = absurd cc
      by_case (Some a) t more f = more (reading a (taken_text p.bytes s w)) (k p line h s a t) f

-- ---- the bytes are no more than the line has

-- how far a reading has come keeps both bounds
Within : ℕ → Reading → Bytes → Type 0
Within m p line = (p.args.len ≤ m) × (length line ≤ m)

word_within : (m : ℕ) → Keeps (Within m)
unfolding Within
word_within m p line h s a e =
    let w = first_word line in
    let bytes = bytes_of_length w in
    let word = first_word_length line in
    (taken_gives (λ (b : Args). b.len ≤ m) p.args w (record { first = λ n. h.0; second = λ n. h.0; text_is = λ t. omega arith; descriptor = λ t. h.0; no_nonce = h.0; nonce = λ t. h.0 }) s a e, omega (arith, h.1, after_word_length line))

pub read_words_len : (shape : List Sort) (line : Bytes) (q : Reading) → read_words shape line ≡ Some q → q.args.len ≤ length line
unfolding read_words Within
read_words_len shape line q e =
    let m = length line in
    (read_keeps (Within m) (word_within m) shape (reading no_args []) q line (omega arith, omega arith) e).1.0
