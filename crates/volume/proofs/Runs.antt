-- The two runs of demand 3, proved for all requests and for any lawful cipher. Each list by itself is compared with its identity run, that of the same
-- list with zeros for keys; the two lists have one identity run, since they agree but for their keys. Assumes nothing.
use Prim.Native.Nat.{ℕ, suc}
use mathlib.Core.Path.{◌≡◌, refl, sym, ◌∙◌, ap, ap₂, subst, subst₂}
use mathlib.Core.Logic.{◌≢◌, ◌⊎◌, inl, inr}
use mathlib.Core.Bool.{Bool, true, false, cond, true≢false, false≢true}
use mathlib.Core.List.Memᴰ
use mathlib.Core.List.{List, [], ◌∷◌, ◌++◌, map, Memᴰ}
use mathlib.Core.Option.{Option, some, none}
use lib.ListN.{length, get_or, take, drop, replicate, length-replicate, take-append-drop}
use lib.Seq.{drop_at}
use lib.Dec.{lit<}
use Rattle.lists.specs.Bytes.{Bytes, ByteList, same, zeros, laid_over}
use Rattle.lists.proofs.Tests.{same_eq, same_self, if_true, if_false}
use Rattle.lists.proofs.Tables.{all_set}
use Rattle.lists.proofs.Slots.{all_same}
use Rattle.errno.specs.Refusals.{Checked, number}
use Rattle.fscrypt.specs.Cipher.{Cipher, Lawful}
use Rattle.lists.proofs.ByteStrings.{length_zeros}
use Rattle.volume.specs.Volume.{key_slots, inode_slots, entry_slots, no_key, no_inode, plain_inode, no_entry, name_of, fresh}
use Rattle.volume.specs.Request.{Request, add_key, remove_key, set_policy, get_policy, create, link, rename, exchange, remove, find, show, seal, unseal, lends, Form, Plain, Decrypted, Encoded, Answer, refused, Outcome, Typed, AllTyped}
use Rattle.volume.specs.Lookup.{is_free_key, inode_at, is_vacant, slot_at}
use Rattle.volume.specs.Step.{lent, settle, step}
use Rattle.volume.specs.Run.{Moment, moment_of, run_from, run}
use Rattle.volume.specs.GivenNames.{Names, named_by, after, names_from, given}
use Rattle.volume.specs.TwoRuns.{SameButKeys, no_more, same_request, other_key, OneKeyEach, blank_key, blank_entry, blank_volume, blank_buffer, blank, NamesAsGiven, TwoRuns}
use Rattle.volume.specs.declared.Key.{Key}
use Rattle.volume.specs.declared.Inode.{Inode}
use Rattle.volume.specs.declared.Entry.{Entry}
use Rattle.volume.specs.declared.Volume.{Volume}
use Rattle.volume.proofs.Touching.{Touches, asks, adds_key, removes_key, sets_policy, creates, links, renames, exchanges, removes, touches}
use Rattle.volume.proofs.Twin.{identity, Setting, Alike, both_refuse, both_fine, key_for, enc_name, enc_key, enc_entry, enc, KeyOk, InodeOk, EntryOk, Inv, Fits, ShownForm, ShownRight, StepTwin, Same}
use Rattle.volume.proofs.TwinLookup.{enc_length}
use Rattle.volume.proofs.TwinKeys.{add_key_twin, remove_key_twin}
use Rattle.volume.proofs.TwinAsking.{get_policy_twin, find_twin, seal_twin, unseal_twin}
use Rattle.volume.proofs.TwinNames.{set_policy_twin, create_twin, link_twin, rename_twin}
use Rattle.volume.proofs.TwinMoves.{exchange_twin, remove_twin}
use Rattle.volume.proofs.TwinShow.{show_twin}

-- ---- a request adds a key, or it adds none

data Keyed : Request → Type 0 where
  with_key_lem : (d k : Bytes) → Keyed (add_key d k)
  keyless : {r : Request} → Keyed r

abbrev keyed_by : {r : Request} → Touches r → Keyed r
keyed_by (asks answers leaves unnaming) = keyless
keyed_by (adds_key d k) = with_key_lem d k
keyed_by (removes_key d) = keyless
keyed_by (sets_policy i p x) = keyless
keyed_by (creates p kind n x) = keyless
keyed_by (links i p n) = keyless
keyed_by (renames e p n) = keyless
keyed_by (exchanges a b) = keyless
keyed_by (removes e) = keyless

abbrev keyed : (r : Request) → Keyed r
keyed r = keyed_by (touches r)

-- the request with zeros for the bytes of its key
abbrev blanked : {r : Request} → Keyed r → Request
blanked (with_key_lem d k) = add_key d (zeros (length k))
blanked (keyless {r}) = r

blank_request : Request → Request
blank_request r = blanked (keyed r)

-- the key that a request offers under this descriptor, or else these bytes
abbrev offered_by : {r : Request} → Keyed r → Bytes → Bytes → Bytes
offered_by (with_key_lem d' k) d k₀ = cond (same d' d) k k₀
offered_by keyless d k₀ = k₀

offered : Request → Bytes → Bytes → Bytes
offered r d k₀ = offered_by (keyed r) d k₀

-- ---- one request

request_twin : (S : Setting) {g : Names} (v : Volume) (ok : Inv S g v) (r : Request) → Typed r → Fits S r → Same S g v r (blank_request r)
unfolding blank_request touches
request_twin S v ok (add_key d k) t h = add_key_twin S v ok d k (h d k refl)
request_twin S v ok (remove_key d) t h = remove_key_twin S v ok d
request_twin S v ok (set_policy i p x) t h = set_policy_twin S v ok i p x t.2
request_twin S v ok (get_policy i) t h = get_policy_twin S v ok i
request_twin S v ok (create p kind n x) t h = create_twin S v ok p kind n x t.0 t.2
request_twin S v ok (link i p n) t h = link_twin S v ok i p n t
request_twin S v ok (rename e p n) t h = rename_twin S v ok e p n t
request_twin S v ok (exchange a b) t h = exchange_twin S v ok a b
request_twin S v ok (remove e) t h = remove_twin S v ok e
request_twin S v ok (find p n) t h = find_twin S v ok p n t
request_twin S v ok (show e b) t h = show_twin S v ok e b
request_twin S v ok (seal i n b) t h = seal_twin S v ok i n b
request_twin S v ok (unseal i n b) t h = unseal_twin S v ok i n b

blank_lent : (r : Request) (n : ℕ) → blank_buffer (lends r) (refused n) (lent r) ≡ blank_buffer (lends r) (refused n) (lent (blank_request r))
unfolding blank_buffer blank_request lent
blank_lent r n = go (keyed r)
  where
    go : {r : Request} (k : Keyed r) → blank_buffer (lends r) (refused n) (lent r) ≡ blank_buffer (lends r) (refused n) (lent (blanked k))
    go (with_key_lem d k) = ap zeros (sym (length_zeros (length k)))
    go keyless = refl

blank_same : (r : Request) (a : Answer) (b : Bytes) → blank_buffer (lends r) a b ≡ blank_buffer (lends (blank_request r)) a b
unfolding blank_buffer blank_request
blank_same r a b = go (keyed r)
  where
    go : {r : Request} (k : Keyed r) → blank_buffer (lends r) a b ≡ blank_buffer (lends (blanked k)) a b
    go (with_key_lem d k) = refl
    go keyless = refl

-- lists that agree but for their keys are one, once blanked
one_list : {rs₁ rs₂ : List Request} → SameButKeys rs₁ rs₂ → map blank_request rs₁ ≡ map blank_request rs₂
unfolding blank_request touches
one_list no_more = refl
one_list (same_request r h) = ap (blank_request r ∷◌) (one_list h)
one_list (other_key d k₁ k₂ l h) = ap₂ (λ (n : ℕ) (rs : List Request). add_key d (zeros n) ∷ rs) l (one_list h)

-- ---- runs

-- every show of a run answers right, where the names before it are by g
abbrev RunRight : Names → List Moment → Type 0
RunRight g [] = Unit {0}
RunRight g (m ∷ ms) = ShownRight g m.request m.answer m.buffer × RunRight (after g m.request m.answer) ms

record RunTwin (g : Names) (ms ms' : List Moment) : Type 0 where
  same_run : map blank ms ≡ map blank ms'
  right_run : RunRight g ms

module _ {A B D : Type 0} where
  map_map : (f : B → D) (h : A → B) (k : A → D) (l : List A) (d : A) → ((i : ℕ) → f (h (get_or l i d)) ≡ k (get_or l i d)) → map f (map h l) ≡ map k l
  map_map f h k [] d e = refl
  map_map f h k (x ∷ xs) d e = ap₂ ◌∷◌ (e 0) (map_map f h k xs d (λ i. e (suc i)))

module _ (S : Setting) where
  abbrev AllFit : List Request → Type 0
  AllFit [] = Unit {0}
  AllFit (r ∷ rs) = Typed r × Fits S r × AllFit rs

  settle_twin : {g : Names} (v : Volume) → Inv S g v → (r : Request) {k k' : Checked} {o o' : Outcome} → Alike (lends r) (StepTwin S r g o o') k k'
      → StepTwin S r g (settle (enc S v) (lent r) k o) (settle v (lent (blank_request r)) k' o')
  unfolding settle named_by
  settle_twin {g} v ok r (both_refuse e t) =
      record { answers = refl; buffers = blank_lent r (number e); volumes = refl; inv = ok; right = t }
  settle_twin v ok r (both_fine s) = s

  step_twin : {g : Names} (v : Volume) → Inv S g v → (r : Request) → Typed r → Fits S r → StepTwin S r g (step S.cipher (enc S v) r) (step identity v (blank_request r))
  unfolding step Same
  step_twin v ok r t h = settle_twin v ok r (request_twin S v ok r t h)

  -- blanked, the two volumes are one
  blank_key_lem : (k : Key) → KeyOk S k → blank_key (enc_key S k) ≡ blank_key k
  blank_key_lem k h = λ i. record { len = k.len; descriptor = k.descriptor; bytes = zeros k.len ++ go (is_free_key k) h i }
    where
      go : (u : Bool) → (u ≡ false → length (S.key k.descriptor) ≡ k.len)
          → drop k.len (cond u k.bytes (laid_over k.bytes (S.key k.descriptor))) ≡ drop k.len k.bytes
      go true h = refl
      go false h = drop_at (S.key k.descriptor) (drop (length (S.key k.descriptor)) k.bytes) k.len (h refl) ∙ ap (λ (n : ℕ). drop n k.bytes) (h refl)

  blank_entry_lem : {g : Names} (v : Volume) (e : ℕ) (x : Entry) → (is_vacant x ≡ false → EntryOk S g (inode_at v x.parent) e x)
      → blank_entry (enc S v) (enc_entry S v.inodes x) ≡ blank_entry v x
  blank_entry_lem {g} v e x h = λ i. record { len = x.len; parent = x.parent; inode = x.inode; name = go (is_vacant x) dir.encrypted refl h i }
    where
      dir : Inode
      dir = inode_at v x.parent

      coded : Bytes
      coded = enc_name S dir (name_of x) ++ drop x.len x.name

      go : (u c : Bool) → dir.encrypted ≡ c → (u ≡ false → EntryOk S g dir e x)
          → cond c (zeros x.len ++ drop x.len (cond u x.name coded)) (cond u x.name coded) ≡ cond c (zeros x.len ++ drop x.len x.name) x.name
      go true c q w = refl
      go false true q w =
          ap (zeros x.len ++◌) (drop_at (enc_name S dir (name_of x)) (drop x.len x.name) x.len (enc_length S dir (name_of x) ∙ (w refl).is_sized))
      go false false q w =
          ap (◌++ drop x.len x.name) (if_false (S.cipher.encrypt_name (key_for S dir) (name_of x)) (name_of x) q) ∙ take-append-drop x.len x.name

  blank_volume_lem : {g : Names} (v : Volume) → Inv S g v → blank_volume (enc S v) ≡ blank_volume v
  unfolding blank_volume
  blank_volume_lem v ok = λ i. record {
    keys = map_map blank_key (enc_key S) blank_key v.keys no_key (λ j. blank_key_lem (get_or v.keys j no_key) (ok.keys_ok j)) i;
    inodes = v.inodes;
    entries = map_map (blank_entry (enc S v)) (enc_entry S v.inodes) (blank_entry v) v.entries no_entry (λ j. blank_entry_lem v j (slot_at v j) (ok.entries_ok j)) i;
  }

  moment_twin : {g : Names} (r : Request) (o o' : Outcome) → StepTwin S r g o o' → blank (moment_of r o) ≡ blank (moment_of (blank_request r) o')
  unfolding blank moment_of
  moment_twin r o o' s = λ i. record {
    answer = s.answers i;
    buffer = (s.buffers ∙ blank_same r o'.answer o'.buffer) i;
    volume = (ap blank_volume s.volumes ∙ blank_volume_lem o'.volume s.inv) i;
  }

  run_twin : (rs : List Request) → AllFit rs → {g : Names} (v v° : Volume) → v° ≡ enc S v → Inv S g v
      → RunTwin g (run_from S.cipher v° rs) (run_from identity v (map blank_request rs))
  unfolding run_from moment_of
  run_twin [] fit v v° e ok = record { same_run = refl; right_run = tt }
  run_twin (r ∷ rs) fit {g} v v° e ok =
      let s = step_twin v ok r fit.0 fit.1 in
      let o : Outcome = step S.cipher (enc S v) r in
      let o' : Outcome = step identity v (blank_request r) in
      let w : Inv S (after g r o.answer) o'.volume = subst (λ (x : Answer). Inv S (after g r x) o'.volume) (sym s.answers) s.inv in
      let t = run_twin rs fit.2 o'.volume o.volume s.volumes w in
      subst (λ (w : Volume). RunTwin g (moment_of r (step S.cipher w r) ∷ run_from S.cipher (step S.cipher w r).volume rs)
      (moment_of (blank_request r) (step identity v (blank_request r)) ∷ run_from identity (step identity v (blank_request r)).volume (map blank_request rs))) (sym e)
      (record { same_run = ap₂ ◌∷◌ (moment_twin r o o' s) t.same_run; right_run = (s.right, t.right_run) })

  -- the fresh volume
  fresh_ok : Inv S (λ e. none) fresh
  unfolding fresh
  fresh_ok =
      record {
        keys_ok = λ i u. absurd (true≢false (sym (ap is_free_key (all_same key_slots i no_key)) ∙ u));
        inodes_ok = all_set (λ j y. InodeOk S y) (replicate inode_slots no_inode) no_inode 0 (plain_inode 1) (λ j u. absurd (false≢true u))
            (λ j ne u. absurd (false≢true (sym (ap (λ (y : Inode). y.encrypted) (all_same inode_slots j no_inode)) ∙ u))) (λ u. absurd (false≢true u));
        entries_ok = λ i u. absurd (true≢false (sym (ap is_vacant (all_same entry_slots i no_entry)) ∙ u));
        sized = length-replicate entry_slots no_entry;
      }

  fresh_enc : fresh ≡ enc S fresh
  unfolding fresh
  fresh_enc = refl

  fresh_twin : (rs : List Request) → AllFit rs → RunTwin (λ e. none) (run S.cipher rs) (run identity (map blank_request rs))
  fresh_twin rs fit = run_twin rs fit fresh fresh fresh_enc fresh_ok

-- ---- given names

-- where every show answers right, each answers right by the names before it
right_at : (past : List Moment) (m : Moment) (next : List Moment) (g : Names) → RunRight g (past ++ (m ∷ next))
    → ShownRight (names_from g past) m.request m.answer m.buffer
unfolding names_from
right_at [] m next g h = h.0
right_at (p ∷ past) m next g h = right_at past m next (after g p.request p.answer) h.1

names_given : (ms : List Moment) → RunRight (λ e. none) ms → NamesAsGiven ms
names_given ms h =
    record {
      clean = λ past next m q e b r w. right past next m q r w;
      named = λ past next m q e b r s w f. go (given past e.0) s.form s.len m.buffer (right past next m q r w e b refl) f;
    }
  where
    right : (past next : List Moment) (m : Moment) → ms ≡ past ++ (m ∷ next) → {r : Request} {a : Answer} → m.request ≡ r → m.answer ≡ a → ShownRight (given past) r a m.buffer
    right past next m q p w =
        subst₂ (λ (x : Request) (y : Answer). ShownRight (given past) x y m.buffer) p w (right_at past m next (λ e. none) (subst (RunRight (λ e. none)) q h))

    go : (o : Option Bytes) (form : Form) (n : ℕ) (b : Bytes) → ShownForm o form n b → form ≢ Encoded → o ≡ some (take n b)
    go o Plain n b s f = s
    go o Decrypted n b s f = s
    go o Encoded n b s f = absurd (f refl)

-- ---- the keys of a list

key_in : List Request → Bytes → Bytes
key_in [] d = []
key_in (r ∷ rs) d = offered r d (key_in rs d)

-- a descriptor that is offered a key is offered the key of the list
offered_own : (d k k₀ : Bytes) → offered (add_key d k) d k₀ ≡ k
unfolding offered touches
offered_own d k k₀ = if_true k k₀ (same_self d)

offered_or : (r : Request) (rs : List Request) (d k₀ : Bytes) → Memᴰ (add_key d k₀) rs → Memᴰ (add_key d (offered r d k₀)) (r ∷ rs)
unfolding offered
offered_or r rs d k₀ m = go (keyed r)
  where
    pick : (d' k : Bytes) (b : Bool) → same d' d ≡ b → Memᴰ (add_key d (cond b k k₀)) (add_key d' k ∷ rs)
    pick d' k true e = Memᴰ.head (ap (λ (x : Bytes). add_key x k) (sym (same_eq d' d e)))
    pick d' k false e = Memᴰ.tail m

    go : {r : Request} (k : Keyed r) → Memᴰ (add_key d (offered_by k d k₀)) (r ∷ rs)
    go (with_key_lem d' k) = pick d' k (same d' d) refl
    go keyless = Memᴰ.tail m

key_offered : (rs : List Request) (d k : Bytes) → Memᴰ (add_key d k) rs → Memᴰ (add_key d (key_in rs d)) rs
unfolding key_in
key_offered [] d k m = absurd (Memᴰ.not-nil m)
key_offered (r ∷ rs) d k m = go (Memᴰ.cases_cons m) (key_offered rs d k)
  where
    go : (add_key d k ≡ r) ⊎ Memᴰ (add_key d k) rs → (Memᴰ (add_key d k) rs → Memᴰ (add_key d (key_in rs d)) rs)
        → Memᴰ (add_key d (offered r d (key_in rs d))) (r ∷ rs)
    go (inl e) ih = Memᴰ.head (ap (add_key d) (ap (λ (y : Request). offered y d (key_in rs d)) (sym e) ∙ offered_own d k (key_in rs d)) ∙ e)
    go (inr m) ih = offered_or r rs d (key_in rs d) (ih m)

offered_bytes : (r : Request) (d k : Bytes) → Typed r → ByteList k → ByteList (offered r d k)
unfolding offered
offered_bytes r d k t h = go (keyed r) t
  where
    pick : (b : Bool) (k' : Bytes) → ByteList k' → ByteList (cond b k' k)
    pick true k' w = w
    pick false k' w = h

    go : {r : Request} (q : Keyed r) → Typed r → ByteList (offered_by q d k)
    go (with_key_lem d' k') t = pick (same d' d) k' t.2
    go keyless t = h

key_bytes_lem : (rs : List Request) → AllTyped rs → (d : Bytes) → ByteList (key_in rs d)
unfolding key_in
key_bytes_lem [] t d = λ i. lit< tt
key_bytes_lem (r ∷ rs) t d = offered_bytes r d (key_in rs d) (t r (Memᴰ.head refl)) (key_bytes_lem rs (λ q m. t q (Memᴰ.tail m)) d)

all_fit : (S : Setting) (rs : List Request) → AllTyped rs → ((d k : Bytes) → Memᴰ (add_key d k) rs → S.key d ≡ k) → AllFit S rs
all_fit S [] t h = tt
all_fit S (r ∷ rs) t h = (t r (Memᴰ.head refl), (λ d k e. h d k (Memᴰ.head e)), all_fit S rs (λ q m. t q (Memᴰ.tail m)) (λ d k m. h d k (Memᴰ.tail m)))

-- ---- the theorem

-- a list with one key for each descriptor has the run of the list without keys, blanked
own_run : (C : Cipher) → Lawful C → (rs : List Request) → AllTyped rs → OneKeyEach rs → RunTwin (λ e. none) (run C rs) (run identity (map blank_request rs))
own_run C law rs t one =
    let S : Setting = record { cipher = C; lawful = law; key = key_in rs; key_bytes_lem = key_bytes_lem rs t } in
    fresh_twin S rs (all_fit S rs t (λ d k m. one d (key_in rs d) k (key_offered rs d k m) m))

pub two_runs : (C : Cipher) → Lawful C → TwoRuns C
two_runs C law rs₁ rs₂ typed₁ typed₂ agree one₁ one₂ =
    let t₁ = own_run C law rs₁ typed₁ one₁ in
    let t₂ = own_run C law rs₂ typed₂ one₂ in
    record {
      same = t₁.same_run ∙ ap (λ (rs : List Request). map blank (run identity rs)) (one_list agree) ∙ sym t₂.same_run;
      names₁ = names_given (run C rs₁) t₁.right_run;
      names₂ = names_given (run C rs₂) t₂.right_run;
    }
