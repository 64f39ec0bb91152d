-- specs/Logged.antt: a session that begins with the fresh volume stays sound, byte by byte, since a line of bytes leaves a sound volume sound. Assumes nothing.
use Prim.Native.Nat.{ℕ, zero, suc, ◌<◌}
use native.Mathlib.Omega.{arith}
use mathlib.Core.Path.{◌≡◌, ap}
use mathlib.Core.List.{[], ◌∷◌, ◌++◌}
use lib.ListN.{get_or}
use Rattle.lists.specs.Bytes.{Bytes, ByteList}
use Rattle.lists.proofs.ByteStrings.{nil_bytes, cons_bytes, append_bytes}
use Rattle.lists.proofs.Slots.{by_cond}
use Rattle.fscrypt.specs.Cipher.{fscrypt}
use Rattle.fscrypt.proofs.Lawfulness.{fscrypt_lawful}
use Rattle.volume.specs.Sound.{Sound}
use Rattle.volume.proofs.Soundness.{fresh_sound}
use Rattle.volume.proofs.PolicyClause.{policy_clause}
use Rattle.script.specs.Cutting.{is_newline}
use Rattle.script.specs.Text.{text}
use Rattle.lines.proofs.Evidence.{evidence as of-lines}
use Rattle.session.specs.Input.{Session, session, begun, ending, fed, fed_all, said_at}
use Rattle.session.specs.Logged.{Proves, Logged}

record Good (s : Session) : Type 0 where
  volume : Sound s.volume
  line : ByteList s.line

fed_good : (s : Session) (b : ℕ) → b < 256 → Good s → Good (fed s b)
unfolding fed
fed_good s b h g =
    by_cond Good (is_newline b) (session (ending s).volume []) (session s.volume (s.line ++ (b ∷ [])))
    (λ q. record { volume = of-lines.stays_sound s.volume g.volume s.line g.line; line = nil_bytes })
    (λ q. record { volume = g.volume; line = append_bytes s.line (b ∷ []) g.line (cons_bytes b [] h nil_bytes) })

all_good : (s : Session) (t : Bytes) → ByteList t → Good s → Good (fed_all s t)
unfolding fed_all
all_good s [] h g = g
all_good s (b ∷ t) h g = all_good (fed s b) t (λ i. h (suc i)) (fed_good s b (h zero) g)

good : (t : Bytes) → ByteList t → Good (fed_all begun t)
good t h = all_good begun t h (record { volume = fresh_sound; line = nil_bytes })

proves : (s : Session) → Good s → (ending s).said ≡ text "error 18 EXDEV\n" → Proves s
proves s g h =
    let d = (of-lines.by_line s.volume s.line).0 h in
    let w = (policy_clause fscrypt fscrypt_lawful).on_sound s.volume g.volume d.0 d.2 in
    (d.0, d.1, d.2, w.0, w.1, w.2)

-- nothing is said but at a newline
proves_at : (s : Session) (b : ℕ) → Good s → said_at s b ≡ text "error 18 EXDEV\n" → Proves s
unfolding said_at
proves_at s b g =
    by_cond (λ (x : Bytes). x ≡ text "error 18 EXDEV\n" → Proves s) (is_newline b) (ending s).said [] (λ q h. proves s g h)
    (λ q h. let z = ap (λ (l : Bytes). get_or l 0 0) h in absurd (omega (arith, z)))

pub logged : Logged
logged = record {
  sound = λ t h. (good t h).volume;
  at_end = λ t h e. proves (fed_all begun t) (good t h) e;
  at_byte = λ t b h e. proves_at (fed_all begun t) b (good t h) e;
}
