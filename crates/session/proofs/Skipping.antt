-- Whether a line is skipped, told from its bytes one by one; what a buffer keeps of a line tells the same.
-- Assumes nothing.
use Prim.Native.Nat.{ℕ, suc, ◌-◌, ◌≤◌, ◌<◌}
use native.Mathlib.Omega.{arith}
use mathlib.Core.Path.{◌≡◌, refl, sym, ◌∙◌, ap}
use mathlib.Core.Bool.{Bool, true, false, cond}
use mathlib.Core.List.{[], ◌∷◌, ◌++◌}
use lib.ListN.{length, take, get_or, drop_of_length-le}
use lib.Seq.{set_split, set-get_or}
use lib.Dec.{eqb, ltb}
use borrow.Author.Tests.{ltb-true, ltb-false, eqb-true, eqb-false, ne_eqb}
use Rattle.lists.specs.Bytes.{Bytes, first_at}
use Rattle.script.specs.Words.{is_blank, trimmed, first_word}
use Rattle.script.specs.Cutting.{last_of, with_last, keep, kept_on, kept}
use Rattle.script.proofs.Keeping.{keep_room, keep_blank, keep_return, keep_word}
use Rattle.lines.specs.Lines.{without_return, is_skipped}
use Rattle.lines.proofs.Answering.{empty_stays, empty_skipped}

-- what the bytes so far of a line have: blanks alone, a carriage return after them, a comment, another word
data Look : Type 0 where
  bare : Look
  returned : Look
  comment : Look
  word : Look

abbrev next : Look → ℕ → Look
next bare b = cond (is_blank b) bare (cond (eqb b 35) comment (cond (eqb b 13) returned word))
next returned b = word
next comment b = comment
next word b = word

abbrev look : Look → Bytes → Look
look q [] = q
look q (b ∷ s) = look (next q b) s

-- a line that ends there is skipped
abbrev skips : Look → Bool
skips bare = true
skips returned = true
skips comment = true
skips word = false

-- ---- a line is skipped as its bytes tell

look_comment : (s : Bytes) → look comment s ≡ comment
look_comment [] = refl
look_comment (b ∷ s) = look_comment s

look_word : (s : Bytes) → look word s ≡ word
look_word [] = refl
look_word (b ∷ s) = look_word s

module _ (b : ℕ) (s : Bytes) where
  skipped_blank : is_blank b ≡ true → is_skipped (b ∷ s) ≡ is_skipped s
  unfolding is_skipped first_word trimmed first_at
  skipped_blank h = rw h

  skipped_word : is_blank b ≡ false → is_skipped (b ∷ s) ≡ eqb b 35
  unfolding is_skipped first_word trimmed first_at
  skipped_word h = let e : eqb (suc (length (take (first_at is_blank s) s))) 0 ≡ false = ne_eqb (suc (length (take (first_at is_blank s) s))) 0 (λ (e : suc (length (take (first_at is_blank s) s)) ≡ 0). omega arith) in rw (h, h, e)

without_one : (b : ℕ) → without_return (b ∷ []) ≡ cond (eqb b 13) [] (b ∷ [])
unfolding without_return
without_one b = refl

without_more : (b c : ℕ) (s : Bytes) → without_return (b ∷ c ∷ s) ≡ b ∷ without_return (c ∷ s)
unfolding without_return
without_more b c s =
    let e : suc (suc (length s)) - 1 ≡ suc (length s) = omega arith in
    let f : suc (length s) - 1 ≡ length s = omega arith in
    rw (e, f) (go (eqb (get_or (c ∷ s) (length s) 0) 13))
  where
    go : (t : Bool) → cond t (b ∷ take (length s) (c ∷ s)) (b ∷ c ∷ s) ≡ b ∷ cond t (take (length s) (c ∷ s)) (c ∷ s)
    go true = refl
    go false = refl

skipped_look : (l : Bytes) → is_skipped (without_return l) ≡ skips (look bare l)
skipped_look [] = ap is_skipped empty_stays ∙ empty_skipped
skipped_look (b ∷ []) = ap is_skipped (without_one b) ∙ go (is_blank b) (eqb b 35) (eqb b 13) refl refl
  where
    go : (t u w : Bool) → is_blank b ≡ t → eqb b 35 ≡ u → is_skipped (cond w [] (b ∷ [])) ≡ skips (cond t bare (cond u comment (cond w returned word)))
    go true u true e f = empty_skipped
    go false true true e f = empty_skipped
    go false false true e f = empty_skipped
    go true u false e f = skipped_blank b [] e ∙ empty_skipped
    go false true false e f = skipped_word b [] e ∙ f
    go false false false e f = skipped_word b [] e ∙ f
skipped_look (b ∷ c ∷ s) = ap is_skipped (without_more b c s) ∙ go (is_blank b) (eqb b 35) (eqb b 13) refl refl (skipped_look (c ∷ s))
  where
    go : (t u w : Bool) → is_blank b ≡ t → eqb b 35 ≡ u → is_skipped (without_return (c ∷ s)) ≡ skips (look bare (c ∷ s)) → is_skipped (b ∷ without_return (c ∷ s)) ≡ skips (look (cond t bare (cond u comment (cond w returned word))) (c ∷ s))
    go true u w e f h = skipped_blank b _ e ∙ h
    go false true w e f h = skipped_word b _ e ∙ f ∙ sym (ap skips (look_comment s))
    go false false true e f h = skipped_word b _ e ∙ f ∙ sym (ap skips (look_word s))
    go false false false e f h = skipped_word b _ e ∙ f ∙ sym (ap skips (look_word s))

-- ---- what is kept tells the same

look_append : (q : Look) (s t : Bytes) → look q (s ++ t) ≡ look (look q s) t
look_append q [] t = refl
look_append q (b ∷ s) t = look_append (next q b) s t

-- a last byte, and another in its stead
module _ (k : Bytes) (h : 0 < length k) where
  front : Look
  front = look bare (take (length k - 1) k)

  look_with_last : (b : ℕ) → look bare (with_last k b) ≡ next front b
  unfolding front
  look_with_last b =
      let e : length k ≤ suc (length k - 1) = omega arith in
      ap (look bare) (set_split k (length k - 1) b (omega arith) ∙ ap (λ (r : Bytes). take (length k - 1) k ++ (b ∷ r)) (drop_of_length-le k e))
      ∙ look_append bare (take (length k - 1) k) (b ∷ [])

  look_last : look bare k ≡ next front (last_of k)
  look_last = ap (look bare) (sym (set-get_or k (length k - 1) 0)) ∙ look_with_last (last_of k)

next_blank : (q : Look) (x b : ℕ) → is_blank x ≡ true → next q b ≡ next (next q x) b
next_blank bare x b h = rw h
next_blank returned x b h = refl
next_blank comment x b h = refl
next_blank word x b h = refl

next_return : (q : Look) (x b : ℕ) → x ≡ 13 → next q 46 ≡ next (next q x) b
next_return bare x b h = rw h
next_return returned x b h = refl
next_return comment x b h = refl
next_return word x b h = refl

next_word : (q : Look) (x b : ℕ) → is_blank x ≡ false → (x ≡ 13 → ⊥) → next q x ≡ next (next q x) b
next_word bare x b h k = rw (h, ne_eqb _ _ k) (go (eqb x 35))
  where
    go : (t : Bool) → cond t comment word ≡ next (cond t comment word) b
    go true = refl
    go false = refl
next_word returned x b h k = refl
next_word comment x b h k = refl
next_word word x b h k = refl

module _ (room : ℕ) (h : 0 < room) where
  look_keep : (k : Bytes) (b : ℕ) → look bare (keep room k b) ≡ next (look bare k) b
  look_keep k b = go (ltb (length k) room) (is_blank (last_of k)) (eqb (last_of k) 13) refl refl refl
    where
      go : (t u w : Bool) → ltb (length k) room ≡ t → is_blank (last_of k) ≡ u → eqb (last_of k) 13 ≡ w → look bare (keep room k b) ≡ next (look bare k) b
      go true u w e f g = ap (look bare) (keep_room room k b (ltb-true _ _ e)) ∙ look_append bare k (b ∷ [])
      go false u w e f g = let l : room ≤ length k = ltb-false _ _ e in let p : 0 < length k = omega arith in full p l u w f g ∙ ap (λ (q : Look). next q b) (sym (look_last k p))
        where
          full : (p : 0 < length k) → room ≤ length k → (u w : Bool) → is_blank (last_of k) ≡ u → eqb (last_of k) 13 ≡ w → look bare (keep room k b) ≡ next (next (front k p) (last_of k)) b
          full p l true w f g = ap (look bare) (keep_blank room k b l f) ∙ look_with_last k p b ∙ next_blank (front k p) (last_of k) b f
          full p l false true f g = ap (look bare) (keep_return room k b l f (eqb-true _ _ g)) ∙ look_with_last k p 46 ∙ next_return (front k p) (last_of k) b (eqb-true _ _ g)
          full p l false false f g = ap (look bare) (keep_word room k b l f (eqb-false _ _ g)) ∙ look_last k p ∙ next_word (front k p) (last_of k) b f (eqb-false _ _ g)

  look_kept : (k s : Bytes) → look bare (kept_on room k s) ≡ look (look bare k) s
  unfolding kept_on
  look_kept k [] = refl
  look_kept k (b ∷ s) = look_kept (keep room k b) s ∙ ap (λ (q : Look). look q s) (look_keep k b)

  pub skipped_kept : (l : Bytes) → is_skipped (without_return (kept room l)) ≡ is_skipped (without_return l)
  skipped_kept l = skipped_look (kept room l) ∙ ap skips (look_kept [] l) ∙ sym (skipped_look l)
