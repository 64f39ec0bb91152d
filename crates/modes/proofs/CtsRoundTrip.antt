-- CBC-CS3: decryption and encryption undo each other, for any number of rounds, any expanded key of bytes and any text of 16 bytes or more; lengths are kept, and
-- bytes stay bytes. Both directions are `cs3`, so what holds of the whole, given what holds of its last two blocks, is said once. Of these two: z is P_n, filled up
-- with zeros, with C_(n-1) added. So z ends as C_(n-1) does, and decryption finds there what encryption cut off. The other way round, C_(n-1) was filled up with the
-- end of z, and that end, added to itself, is the zeros that P_n is filled up with. Assumes nothing.
use mathlib.Core.Path.{◌≡◌, refl, sym, ap, ap₂, ◌∙◌, subst}
use mathlib.Core.List.{List, ◌++◌}
use Prim.Native.Nat.{ℕ, ◌+◌, ◌-◌, ◌*◌, ◌/◌, ◌≤◌, ◌<◌}
use native.Mathlib.Decide.{dec_lt}
use native.Mathlib.Omega.{arith}
use lib.ListN.{length, take, drop, length-append, length-take, length-drop, take-append-drop}
use lib.Seq.{drop_at}
use Rattle.lists.specs.Bytes.{ByteList}
use Rattle.lists.proofs.ByteStrings.{append_bytes, take_bytes, drop_bytes}
use Rattle.aes.specs.Words.{word_at}
use Rattle.aes.specs.States.{add_round_key, state_at}
use Rattle.aes.specs.Bytes.{state_bytes}
use Rattle.aes.specs.Cipher.{inv_cipher}
use Rattle.aes.specs.declared.State.{State}
use Rattle.aes.proofs.Appended.{length_state}
use Rattle.aes.proofs.ByteStates.{ByteState, add_round_key_bytes, inv_cipher_bytes}
use Rattle.aes.proofs.Inverse.{added_twice}
use Rattle.aes.proofs.ScheduleBytes.{state_bytes_bytes, state_at_bytes}
use Rattle.modes.specs.Blocks.{zero_block}
use Rattle.modes.specs.Walk.{carried, walked}
use Rattle.modes.specs.Cbc.{cbc_step, cbc_next, cbc_inv_step, cbc_inv_next}
use Rattle.modes.specs.Cts.{last_two, inv_last_two, filled, long, cs3, cbc_cs3_encrypt, cbc_cs3_decrypt}
use Rattle.modes.proofs.BlockLoop.{length_walked, walked_bytes}
use Rattle.modes.proofs.ListBlocks.{take_state, state_front, zero_filled, filled_front, filled_end, filled_again, filled_state_bytes, end_added, added_to_zero, added_to_itself}
use Rattle.modes.proofs.RoundTrip.{out, written, carried_back, walked_back, unwalked}
use Rattle.modes.proofs.CbcRoundTrip.{deciphered, cbc_undo, cbc_redo, step_bytes, inv_step_bytes, carried_bytes, inv_carried_bytes, out_bytes, inv_out_bytes, undone, redone}
use Rattle.modes.proofs.CtsSteal.{cs3_long, cs3_one}

-- ---- the whole, given what holds of the last two blocks

module _ (step : State → State → State) (next : State → State → State → State) (last : State → List ℕ → List ℕ) (c : State) (l : List ℕ) where
  module _ (fits : (t : State) (e : List ℕ) → 16 ≤ length e → length e ≤ 32 → length (last t e) ≡ length e) where
    length_long : (m : ℕ) → 16 * m + 16 ≤ length l → length l ≤ 16 * m + 32 → length (long step next last c l m) ≡ length l
    unfolding long
    length_long m lo hi =
        let e : length (drop (16 * m) l) ≡ length l - 16 * m = length-drop (16 * m) l in
        simp length-append (omega (arith, length_walked step next l c m, fits (carried step next l c m) (drop (16 * m) l) (omega arith) (omega arith)))

    length_cs3 : 16 ≤ length l → length (cs3 step next last c l) ≡ length l
    length_cs3 h =
        elim (dec_lt 16 (length l)) [
          | yes g ↦ ap length (cs3_long step next last c l g) ∙ length_long ((length l - 17) / 16) (omega arith) (omega arith)
          | no g ↦
              let e : length l ≡ 16 = omega (arith, g) in
              ap length (cs3_one step next last c l (omega arith)) ∙ length_walked step next l c 1 ∙ sym e
        ]

    -- another such function undoes it
    module _ (unstep : State → State → State) (unnext : State → State → State → State) (unlast : State → List ℕ → List ℕ)
        (undo : (i : ℕ) → unstep (carried step next l c i) (out step next l c i) ≡ state_at l (16 * i)) (same : (t p : State) → unnext t (step t p) p ≡ next t p (step t p))
        (end : (m : ℕ) (e : List ℕ) → e ≡ drop (16 * m) l → 16 ≤ length e → length e ≤ 32 → unlast (carried step next l c m) (last (carried step next l c m) e) ≡ e) where
      long_back : (m : ℕ) → 16 * m + 16 ≤ length l → length l ≤ 16 * m + 32 → long unstep unnext unlast c (long step next last c l m) m ≡ l
      unfolding long
      long_back m lo hi =
          let A : List ℕ = walked step next l c m in
          let t : State = carried step next l c m in
          let e : List ℕ = drop (16 * m) l in
          let B : List ℕ = last t e in
          let le : length e ≡ length l - 16 * m = length-drop (16 * m) l in
          let wrote : (i : ℕ) → i < m → state_at (A ++ B) (16 * i) ≡ out step next l c i =
          λ i h. state_front A B (16 * i) (omega (arith, length_walked step next l c m)) ∙ written step next l c m i h in
          let u : carried unstep unnext (A ++ B) c m ≡ t = carried_back step next l c unstep unnext m (λ i h. undo i) same (A ++ B) wrote m (omega arith) in
          let f : walked unstep unnext (A ++ B) c m ≡ take (16 * m) l =
          walked_back step next l c unstep unnext m (λ i h. undo i) same (A ++ B) wrote (omega arith) m (omega arith) in
          ap₂ (λ (x y : List ℕ). x ++ y) f (ap₂ unlast u (drop_at A B (16 * m) (length_walked step next l c m)) ∙ end m e refl (omega arith) (omega arith))
          ∙ take-append-drop (16 * m) l

      cs3_back : 16 ≤ length l → cs3 unstep unnext unlast c (cs3 step next last c l) ≡ l
      cs3_back h =
          let e : length (cs3 step next last c l) ≡ length l = length_cs3 h in
          elim (dec_lt 16 (length l)) [
            | yes g ↦
                cs3_long unstep unnext unlast c (cs3 step next last c l) (omega arith)
                ∙ ap₂ (λ (x : List ℕ) (k : ℕ). long unstep unnext unlast c x ((k - 17) / 16)) (cs3_long step next last c l g) e
                ∙ long_back ((length l - 17) / 16) (omega arith) (omega arith)
            | no g ↦
                let f : length l ≡ 16 = omega (arith, g) in
                cs3_one unstep unnext unlast c (cs3 step next last c l) (omega arith)
                ∙ ap (λ (x : List ℕ). walked unstep unnext x c 1) (cs3_one step next last c l (omega arith))
                ∙ unwalked step next l c unstep unnext 1 (λ i k. undo i) same f
          ]

  -- what is made of bytes is bytes
  cs3_bytes : ((i : ℕ) → ByteState (out step next l c i)) → ((m : ℕ) (e : List ℕ) → e ≡ drop (16 * m) l → 16 ≤ length e → ByteList (last (carried step next l c m) e))
      → ByteList (cs3 step next last c l)
  unfolding long
  cs3_bytes h g =
      elim (dec_lt 16 (length l)) [
        | yes b ↦
            let m : ℕ = (length l - 17) / 16 in
            let e : length (drop (16 * m) l) ≡ length l - 16 * m = length-drop (16 * m) l in
            subst (λ (x : List ℕ). ByteList x) (sym (cs3_long step next last c l b))
            (append_bytes (walked step next l c m) _ (walked_bytes step next l c h m) (g m (drop (16 * m) l) refl (omega arith)))
        | no b ↦ subst (λ (x : List ℕ). ByteList x) (sym (cs3_one step next last c l (omega (arith, b)))) (walked_bytes step next l c h 1)
      ]

-- ---- two blocks, of which the second is cut

two_length : (s u : State) (d n : ℕ) → d ≤ 16 → n ≡ 16 + d → length (state_bytes s ++ take d (state_bytes u)) ≡ n
two_length s u d n h e = simp (length-append, length-take) (omega (arith, length_state s, length_state u))

two_bytes : (s u : State) (d : ℕ) → ByteState s → ByteState u → ByteList (state_bytes s ++ take d (state_bytes u))
two_bytes s u d hs hu = append_bytes (state_bytes s) (take d (state_bytes u)) (state_bytes_bytes s hs) (take_bytes d (state_bytes u) (state_bytes_bytes u hu))

-- read again
module _ (s u : State) (d : ℕ) (h : d ≤ 16) where
  abbrev L : List ℕ
  L = state_bytes s ++ take d (state_bytes u)

  room : length L - 16 ≡ d
  room = simp (length-append, length-take) (omega (arith, length_state s, length_state u))

  first : state_at L 0 ≡ s
  unfolding state_at word_at state_bytes
  first = refl

  second : (z : State) → drop d (state_bytes u) ≡ drop d (state_bytes z) → filled L 16 z ≡ u
  second z g = filled_again (state_bytes s) u z 16 d (length_state s) h g

-- those that a text ends with
two_of : (l : List ℕ) (d : ℕ) (x : State) → length l ≡ 16 + d → d ≤ 16 → state_bytes (state_at l 0) ++ take d (state_bytes (filled l 16 x)) ≡ l
two_of l d x e h = ap₂ (λ (u v : List ℕ). u ++ v) (sym (take_state l 0 (omega arith))) (filled_front l x 16 d e h) ∙ take-append-drop 16 l

-- ---- the last two blocks, each way

module _ (w : List ℕ) (n : ℕ) (t : State) (l : List ℕ) where
  last_fits : 16 ≤ length l → length l ≤ 32 → length (last_two w n t l) ≡ length l
  unfolding last_two
  last_fits lo hi = two_length _ _ (length l - 16) (length l) (omega arith) (omega arith)

  inv_last_fits : 16 ≤ length l → length l ≤ 32 → length (inv_last_two w n t l) ≡ length l
  unfolding inv_last_two
  inv_last_fits lo hi = two_length _ _ (length l - 16) (length l) (omega arith) (omega arith)

module _ (w : List ℕ) (key_bytes_lem : ByteList w) (n : ℕ) (l : List ℕ) (bytes : ByteList l) (t : State) (ht : ByteState t) (lo : 16 ≤ length l) where
  -- the first of them, enciphered: C_(n-1) of a text
  abbrev a : State
  a = cbc_step w n t (state_at l 0)

  a_bytes : ByteState a
  a_bytes = step_bytes w key_bytes_lem n t (state_at l 0) ht (state_at_bytes l bytes 0)

  -- the first of them, deciphered: z of a ciphertext, and its C_(n-1)
  abbrev z : State
  z = inv_cipher w n (state_at l 0)

  z_bytes : ByteState z
  z_bytes = inv_cipher_bytes w key_bytes_lem n (state_at l 0) (state_at_bytes l bytes 0)

  abbrev a' : State
  a' = filled l 16 z

  a'_bytes : ByteState a'
  a'_bytes = filled_state_bytes l bytes z z_bytes 16 lo

  last_bytes : ByteList (last_two w n t l)
  unfolding last_two
  last_bytes = two_bytes _ a (length l - 16) (step_bytes w key_bytes_lem n a (state_at l 16) a_bytes (state_at_bytes l bytes 16)) a_bytes

  inv_last_bytes : ByteList (inv_last_two w n t l)
  unfolding inv_last_two
  inv_last_bytes = two_bytes _ _ (length l - 16) (inv_step_bytes w key_bytes_lem n t a' ht a'_bytes) (add_round_key_bytes z a' z_bytes a'_bytes)

  module _ (hi : length l ≤ 32) where
    abbrev d : ℕ
    d = length l - 16

    whole : length l ≡ 16 + d
    whole = omega arith

    short : d ≤ 16
    short = omega arith

    -- a text's z is P_n with a added, so it ends as a does
    last_back : inv_last_two w n t (last_two w n t l) ≡ l
    unfolding last_two inv_last_two
    last_back =
        let q : State = state_at l 16 in
        let b : State = cbc_step w n a q in
        let C : List ℕ = L b a d short in
        let y : inv_cipher w n (state_at C 0) ≡ add_round_key q a =
        ap (inv_cipher w n) (first b a d short) ∙ deciphered w key_bytes_lem n a q a_bytes (state_at_bytes l bytes 16) in
        let zeros : drop d (state_bytes q) ≡ drop d (state_bytes zero_block) =
        ap (λ (s : State). drop d (state_bytes s)) (sym (zero_filled l 16)) ∙ filled_end l zero_block 16 d whole short in
        let ends : drop d (state_bytes a) ≡ drop d (state_bytes (add_round_key q a)) =
        sym (end_added q zero_block a a d zeros refl ∙ ap (λ (s : State). drop d (state_bytes s)) (added_to_zero a)) in
        let f : filled C 16 (inv_cipher w n (state_at C 0)) ≡ a = ap (filled C 16) y ∙ second b a d short (add_round_key q a) ends in
        let u : cbc_inv_step w n t (filled C 16 (inv_cipher w n (state_at C 0))) ≡ state_at l 0 =
        ap (cbc_inv_step w n t) f ∙ cbc_undo w key_bytes_lem n t (state_at l 0) ht (state_at_bytes l bytes 0) in
        let v : add_round_key (inv_cipher w n (state_at C 0)) (filled C 16 (inv_cipher w n (state_at C 0))) ≡ filled l 16 zero_block =
        ap₂ add_round_key y f ∙ added_twice q a ∙ sym (zero_filled l 16) in
        ap₂ (λ (x y : List ℕ). x ++ y) (ap state_bytes u) (ap₂ (λ (x : ℕ) (s : State). take x (state_bytes s)) (room b a d short) v) ∙ two_of l d zero_block whole short

    -- a ciphertext's C_(n-1) ends as z does, so their sum P_n ends with zeros
    inv_last_back : last_two w n t (inv_last_two w n t l) ≡ l
    unfolding last_two inv_last_two cbc_inv_step
    inv_last_back =
        let p : State = cbc_inv_step w n t a' in
        let q : State = add_round_key z a' in
        let P : List ℕ = L p q d short in
        let zeros : drop d (state_bytes q) ≡ drop d (state_bytes zero_block) =
        end_added z z a' z d refl (filled_end l z 16 d whole short) ∙ ap (λ (s : State). drop d (state_bytes s)) (added_to_itself z) in
        let f : cbc_step w n t (state_at P 0) ≡ a' = ap (cbc_step w n t) (first p q d short) ∙ cbc_redo w key_bytes_lem n t a' a'_bytes in
        let g : state_at P 16 ≡ q = sym (zero_filled P 16) ∙ second p q d short zero_block zeros in
        let u : cbc_step w n (cbc_step w n t (state_at P 0)) (state_at P 16) ≡ state_at l 0 =
        ap₂ (cbc_step w n) f g ∙ cbc_redo w key_bytes_lem n a' (state_at l 0) (state_at_bytes l bytes 0) in
        ap₂ (λ (x y : List ℕ). x ++ y) (ap state_bytes u) (ap₂ (λ (x : ℕ) (s : State). take x (state_bytes s)) (room p q d short) f) ∙ two_of l d z whole short

-- ---- the laws

module _ (w : List ℕ) (n : ℕ) (c : State) (l : List ℕ) where
  pub length_cbc_cs3_encrypt : 16 ≤ length l → length (cbc_cs3_encrypt w n c l) ≡ length l
  length_cbc_cs3_encrypt = length_cs3 (cbc_step w n) cbc_next (last_two w n) c l (last_fits w n)

  pub length_cbc_cs3_decrypt : 16 ≤ length l → length (cbc_cs3_decrypt w n c l) ≡ length l
  length_cbc_cs3_decrypt = length_cs3 (cbc_inv_step w n) cbc_inv_next (inv_last_two w n) c l (inv_last_fits w n)

module _ (w : List ℕ) (key_bytes_lem : ByteList w) (n : ℕ) (c : State) (hc : ByteState c) (l : List ℕ) (bytes : ByteList l) where
  -- the rest of it is bytes
  rest_bytes : (m : ℕ) (e : List ℕ) → e ≡ drop (16 * m) l → ByteList e
  rest_bytes m e h = subst (λ (x : List ℕ). ByteList x) (sym h) (drop_bytes (16 * m) l bytes)

  pub cts_dec_enc : 16 ≤ length l → cbc_cs3_decrypt w n c (cbc_cs3_encrypt w n c l) ≡ l
  cts_dec_enc =
      cs3_back (cbc_step w n) cbc_next (last_two w n) c l (last_fits w n) (cbc_inv_step w n) cbc_inv_next (inv_last_two w n) (undone w key_bytes_lem n c hc l bytes) (λ u p. refl)
      (λ m e h. last_back w key_bytes_lem n e (rest_bytes m e h) _ (carried_bytes w key_bytes_lem n c hc l bytes m))

  pub cts_enc_dec : 16 ≤ length l → cbc_cs3_encrypt w n c (cbc_cs3_decrypt w n c l) ≡ l
  cts_enc_dec =
      cs3_back (cbc_inv_step w n) cbc_inv_next (inv_last_two w n) c l (inv_last_fits w n) (cbc_step w n) cbc_next (last_two w n) (redone w key_bytes_lem n c hc l bytes) (λ u p. refl)
      (λ m e h. inv_last_back w key_bytes_lem n e (rest_bytes m e h) _ (inv_carried_bytes w key_bytes_lem n c hc l bytes m))

  pub cbc_cs3_encrypt_bytes : ByteList (cbc_cs3_encrypt w n c l)
  cbc_cs3_encrypt_bytes =
      cs3_bytes (cbc_step w n) cbc_next (last_two w n) c l (out_bytes w key_bytes_lem n c hc l bytes)
      (λ m e h. last_bytes w key_bytes_lem n e (rest_bytes m e h) _ (carried_bytes w key_bytes_lem n c hc l bytes m))

  pub cbc_cs3_decrypt_bytes : ByteList (cbc_cs3_decrypt w n c l)
  cbc_cs3_decrypt_bytes =
      cs3_bytes (cbc_inv_step w n) cbc_inv_next (inv_last_two w n) c l (inv_out_bytes w key_bytes_lem n c hc l bytes)
      (λ m e h. inv_last_bytes w key_bytes_lem n e (rest_bytes m e h) _ (inv_carried_bytes w key_bytes_lem n c hc l bytes m))
