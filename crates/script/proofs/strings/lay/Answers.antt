-- `lay`: the bytes behind `=`, or those of the digits. Assumes nothing.
use Rattle.std.proofs.Common.{◌≡◌, ◌-◌, ◌≤◌, true, sym, ap, ◌∙◌, length, take, drop, arith}
use borrow.Author.Rules.{part_to_end}
use Rattle.lists.specs.Bytes.{Bytes, laid_over}
use Rattle.lists.proofs.Copies.{copied_over}
use Rattle.script.specs.Strings.{is_quoted, bytes_of}
use Rattle.script.proofs.Hex.{quoted_bytes, hex_bytes}
use Rattle.script.proofs.strings.lay.Goals as goal

-- what stands behind the `=`, as the code takes it
behind : (s : Bytes) → is_quoted s ≡ true → take (length s - 1) (drop 1 s) ≡ bytes_of s
behind s e = part_to_end s 1 ∙ sym (quoted_bytes s e)

-- there is room for them
room : (s b : Bytes) → is_quoted s ≡ true → length (bytes_of s) ≤ length b → length (take (length s - 1) (drop 1 s)) ≤ length b
room s b e h = omega (arith, h, ap length (behind s e))

pub copy_to-requires : goal.copy_to-requires
copy_to-requires c = omega (arith, room c.args.s.now c.args.out.now (sym c.is_quoted.ensures ∙ c.if-is_quoted.true) c.requires)

pub lay_hex-requires : goal.lay_hex-requires
lay_hex-requires c = let s = c.args.s.now in omega (arith, c.requires, ap length (hex_bytes s (sym c.is_quoted.ensures ∙ c.if-is_quoted.false)))

pub returns-then-is_quoted : goal.returns-then-is_quoted
returns-then-is_quoted c =
    let s = c.args.s.now in
    let out = c.args.out.now in
    let quoted = sym c.is_quoted.ensures ∙ c.if-is_quoted.true in
    c.copy_to.ensures ∙ copied_over out _ (room s out quoted c.requires) ∙ ap (laid_over out) (behind s quoted)

pub returns-else-is_quoted : goal.returns-else-is_quoted
returns-else-is_quoted c =
    let s = c.args in
    let digits = sym c.is_quoted.ensures ∙ c.if-is_quoted.false in
    c.lay_hex.ensures ∙ ap (laid_over s.out.now) (sym (hex_bytes _ digits))
