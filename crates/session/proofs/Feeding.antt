-- What is answered to an input: bytes in parts, a line and its end, and a line of which a buffer keeps some bytes: it holds all of them, or the line is
-- over the limit, and skipped or not alike.
-- Assumes nothing.
use Prim.Native.Nat.{ℕ, suc, ◌≤◌, ◌<◌}
use native.Mathlib.Omega.{arith}
use mathlib.Core.Path.{◌≡◌, refl, sym, ◌∙◌, ap}
use mathlib.Core.Bool.{Bool, true, false, cond}
use mathlib.Core.List.{[], ◌∷◌, ◌++◌, append-nil, append_assoc}
use lib.ListN.{length, take, get_or}
use lib.Seq.{append_snoc, take-suc}
use lib.Dec.{ltb}
use borrow.Author.Tests.{ltb-true, ltb-false}
use Rattle.std.specs.Prelude.{Option, unwrap_or}
use Rattle.lists.specs.Bytes.{Bytes, first_at}
use Rattle.lists.proofs.Copies.{laid_read}
use Rattle.lists.proofs.Tables.{first_at_le, first_at_passes}
use Rattle.volume.specs.Volume.{fresh}
use Rattle.volume.specs.declared.Volume.{Volume}
use Rattle.script.specs.Cutting.{is_newline, has_newline, before_newline, up_to_newline, kept_on, kept}
use Rattle.script.proofs.Keeping.{kept_on_length, kept_on_short, kept_on_append}
use Rattle.lines.specs.Answers.{Said}
use Rattle.lines.specs.Lines.{answered, HasRoom, line_outcome, answered_in}
use Rattle.session.specs.Input.{Session, session, begun, ending, fed, said_at, fed_all, said_all, transcript, Held, Begun, Feeds, Ends, Ran}
use Rattle.session.specs.declared.input.Reader.{Reader}
use Rattle.lines.specs.declared.LineAnswer.{LineAnswer}
use Rattle.lines.proofs.Answering.{answers_none, overlong_alike}
use Rattle.lines.proofs.Room.{replied_in}
use Rattle.session.proofs.Skipping.{skipped_kept}

-- what a buffer keeps of a line is answered as the line
pub answered_kept : (v : Volume) (room : ℕ) → 131074 ≤ room → (l : Bytes) → answered v (kept room l) ≡ answered v l
answered_kept v room h l = go (ltb room (length l)) refl
  where
    go : (t : Bool) → ltb room (length l) ≡ t → answered v (kept room l) ≡ answered v l
    go true e =
        let k : room < length l = ltb-true _ _ e in
        overlong_alike v (kept room l) l (omega (arith, kept_on_length room [] l (omega arith))) (omega arith) (skipped_kept room (omega arith) l)
    go false e = let k : length l ≤ room = ltb-false _ _ e in ap (answered v) (kept_on_short room [] l (omega arith))

-- ---- bytes in parts

pub fed_all_append : (s : Session) (t u : Bytes) → fed_all s (t ++ u) ≡ fed_all (fed_all s t) u
unfolding fed_all
fed_all_append s [] u = refl
fed_all_append s (b ∷ t) u = fed_all_append (fed s b) t u

pub said_all_append : (s : Session) (t u : Bytes) → said_all s (t ++ u) ≡ said_all s t ++ said_all (fed_all s t) u
unfolding fed_all said_all
said_all_append s [] u = refl
said_all_append s (b ∷ t) u = ap (λ (x : Bytes). said_at s b ++ x) (said_all_append (fed s b) t u) ∙ sym (append_assoc (said_at s b) (said_all (fed s b) t) (said_all (fed_all (fed s b) t) u))

-- ---- a line's bytes, and its end

-- the session with the bytes before a newline
abbrev lined : Session → Bytes → Session
lined s c = session s.volume (s.line ++ before_newline c)

fed_byte : (s : Session) (x : ℕ) → is_newline x ≡ false → fed s x ≡ session s.volume (s.line ++ (x ∷ []))
unfolding fed
fed_byte s x h = rw h

fed_before : (s : Session) (c : Bytes) → fed_all s (before_newline c) ≡ lined s c
unfolding fed_all before_newline first_at
fed_before s [] = sym (ap (session s.volume) (append-nil s.line))
fed_before s (x ∷ c) = go (is_newline x) refl (fed_before (session s.volume (s.line ++ (x ∷ []))) c)
  where
    go : (t : Bool) → is_newline x ≡ t → fed_all (session s.volume (s.line ++ (x ∷ []))) (take (first_at is_newline c) c) ≡ session s.volume ((s.line ++ (x ∷ [])) ++ take (first_at is_newline c) c)
        → fed_all s (take (cond t 0 (suc (first_at is_newline c))) (x ∷ c)) ≡ session s.volume (s.line ++ take (cond t 0 (suc (first_at is_newline c))) (x ∷ c))
    go true e h = sym (ap (session s.volume) (append-nil s.line))
    go false e h = ap (λ (r : Session). fed_all r (take (first_at is_newline c) c)) (fed_byte s x e) ∙ h ∙ ap (session s.volume) (append_snoc s.line x (take (first_at is_newline c) c))

said_before : (s : Session) (c : Bytes) → said_all s (before_newline c) ≡ []
unfolding said_all said_at fed before_newline first_at
said_before s [] = refl
said_before s (x ∷ c) = go (is_newline x) refl (said_before (session s.volume (s.line ++ (x ∷ []))) c)
  where
    go : (t : Bool) → is_newline x ≡ t → said_all (session s.volume (s.line ++ (x ∷ []))) (take (first_at is_newline c) c) ≡ [] → said_all s (take (cond t 0 (suc (first_at is_newline c))) (x ∷ c)) ≡ []
    go true e h = refl
    go false e h = rw e h

module _ (s : Session) (x : ℕ) (h : is_newline x ≡ true) where
  fed_newline : fed_all s (x ∷ []) ≡ session (ending s).volume []
  unfolding fed_all fed
  fed_newline = rw h

  said_newline : said_all s (x ∷ []) ≡ (ending s).said
  unfolding said_all said_at
  said_newline = rw h (append-nil (ending s).said)

module _ (c : Bytes) where
  not_ended : has_newline c ≡ false → take (up_to_newline c) c ≡ before_newline c
  unfolding before_newline
  not_ended h = let k : length c ≤ first_at is_newline c = ltb-false _ _ h in let e : up_to_newline c ≡ first_at is_newline c = omega (arith, first_at_le is_newline c) in ap (λ (n : ℕ). take n c) e

  at_newline : has_newline c ≡ true → take (up_to_newline c) c ≡ before_newline c ++ (get_or c (first_at is_newline c) 10 ∷ [])
  unfolding before_newline
  at_newline h = let k : first_at is_newline c < length c = ltb-true _ _ h in let e : up_to_newline c ≡ suc (first_at is_newline c) = omega arith in ap (λ (n : ℕ). take n c) e ∙ take-suc c (first_at is_newline c) 10 k

module _ (s : Session) (c : Bytes) where
  fed_on : has_newline c ≡ false → fed_all s (take (up_to_newline c) c) ≡ lined s c
  fed_on h = ap (fed_all s) (not_ended c h) ∙ fed_before s c

  said_on : has_newline c ≡ false → said_all s (take (up_to_newline c) c) ≡ []
  said_on h = ap (said_all s) (not_ended c h) ∙ said_before s c

  module _ (h : has_newline c ≡ true) where
    newline : is_newline (get_or c (first_at is_newline c) 10) ≡ true
    newline = first_at_passes is_newline c 10 refl

    fed_end : fed_all s (take (up_to_newline c) c) ≡ session (ending (lined s c)).volume []
    fed_end =
        let x = get_or c (first_at is_newline c) 10 in
        ap (fed_all s) (at_newline c h) ∙ fed_all_append s (before_newline c) (x ∷ []) ∙ ap (λ (r : Session). fed_all r (x ∷ [])) (fed_before s c) ∙ fed_newline (lined s c) x newline

    said_end : said_all s (take (up_to_newline c) c) ≡ (ending (lined s c)).said
    said_end =
        let x = get_or c (first_at is_newline c) 10 in
        ap (said_all s) (at_newline c h) ∙ said_all_append s (before_newline c) (x ∷ []) ∙ ap (λ (r : Bytes). r ++ said_all (fed_all s (before_newline c)) (x ∷ [])) (said_before s c)
        ∙ ap (λ (r : Session). said_all r (x ∷ [])) (fed_before s c) ∙ said_newline (lined s c) x newline

-- ---- the buffer

pub held_ends : (v : Volume) (buffer : Bytes) (used : ℕ) (b c payload out : Bytes) (r : LineAnswer) → 131074 ≤ length buffer → HasRoom (length (take used buffer)) (length b) (length c)
    → line_outcome r payload out ≡ answered_in v (take used buffer) b c → (s : Session) → Held v buffer used s → (r.volume ≡ (ending s).volume) × (take (unwrap_or r.len 0) out ≡ (ending s).said)
held_ends v buffer used b c payload out r h g a s e =
    let x = replied_in v (take used buffer) b c payload out r g a in
    let k : answered v (take used buffer) ≡ ending s = same e.0 e.1 ∙ answered_kept s.volume (length buffer) h s.line in
    let len = unwrap_or r.len 0 in
    (x.0 ∙ ap (λ (t : Said). t.volume) k, ap (take len) x.2 ∙ laid_read c _ len (ap (λ (o : Option ℕ). unwrap_or o 0) x.1) ∙ ap (λ (t : Said). t.said) k)
  where
    same : {v w : Volume} {k l : Bytes} → v ≡ w → k ≡ l → answered v k ≡ answered w l
    same e f = cc

module _ (before after : Bytes) (v : Volume) (m n : ℕ) (c : Bytes) (h : length after ≡ length before) (e : take n after ≡ kept_on (length before) (take m before) (before_newline c)) where
  cut_held : (s : Session) → Held v before m s → Held v after n (lined s c)
  cut_held s k = (k.0, e ∙ ap (λ (x : Bytes). kept_on (length before) x (before_newline c)) k.1 ∙ sym (kept_on_append (length before) [] s.line (before_newline c)) ∙ ap (λ (x : ℕ). kept x (s.line ++ before_newline c)) (sym h))

  -- no newline yet
  module _ (t : ℕ) (f : t ≡ up_to_newline c) (g : has_newline c ≡ false) where
    pub goes_on : (s : Session) → Held v before m s → Held v after n (fed_all s (take t c)) × ([] ≡ said_all s (take t c))
    goes_on s k = (rw (f, fed_on s c g) (cut_held s k), rw f (sym (said_on s c g)))

  -- a newline, and what is said to the line
  module _ (t : ℕ) (f : t ≡ up_to_newline c) (g : has_newline c ≡ true) (w : Volume) (last text : Bytes) (used : ℕ) (z : used ≡ 0)
      (a : (s : Session) → Held v after n s → (w ≡ (ending s).volume) × (text ≡ (ending s).said)) where
    pub ends_here : (s : Session) → Held v before m s → Held w last used (fed_all s (take t c)) × (text ≡ said_all s (take t c))
    unfolding kept_on
    ends_here s k =
        let said = a (lined s c) (cut_held s k) in
        (rw (f, fed_end s c g) (said.0, rw z), said.1 ∙ rw f (sym (said_end s c g)))

-- a chunk, in parts
pub feeds_none : (r : Reader) → Feeds r [] r
unfolding fed_all
feeds_none r s k = k

pub feeds_more : (a b c : Reader) (t u : Bytes) → Feeds a t b → Feeds b u c → Feeds a (t ++ u) c
feeds_more a b c t u f g s k = rw fed_all_append (g (fed_all s t) (f s k))

-- an input, in chunks
pub begun_none : (b : Bytes) (v : Volume) → v ≡ fresh → (t : Bytes) × Held v b 0 (fed_all begun t)
unfolding fed_all kept_on
begun_none b v h = ([], (h, refl))

pub begun_more : (a b : Reader) (c : Bytes) → Begun a → Feeds a c b → Begun b
begun_more a b c h f = (h.0 ++ c, rw fed_all_append (f (fed_all begun h.0) h.1))

pub begun_ran : (a b : Reader) (text : Bytes) → Begun a → Ends a b text → Ran b.volume
begun_ran a b text h e = (h.0, (e.1 (fed_all begun h.0) h.1).0)

-- where the last line has its newline, nothing is said at the end
pub transcript_whole : (t : Bytes) → (fed_all begun t).line ≡ [] → transcript t ≡ said_all begun t
unfolding transcript
transcript_whole t h =
    let v = (fed_all begun t).volume in
    ap (λ (l : Bytes). said_all begun t ++ (answered v l).said) h
    ∙ ap (λ (s : Said). said_all begun t ++ s.said) (answers_none v)
    ∙ append-nil (said_all begun t)
