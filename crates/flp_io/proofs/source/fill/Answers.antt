use Rattle.std.proofs.Common.{◌≡◌, ℕ, ◌+◌, ◌≤◌, List, ◌++◌, rules, length, take, drop, sym, ap, ◌∙◌, subst, le_refl, drop_at, length-take-le}
use Rattle.std.proofs.lemmas.Slice.{take-put_mid_below}
use Rattle.std.specs.Io.KnownBytes.{Consumes}
use Rattle.std.proofs.KnownBytes.{Consumes-trans}
use borrow.Rule.Slice.PartMut.{put_mid, post_of}
use lib.Seq.{take-add, take-append-le}
use Rattle.flp_io.proofs.source.fill.Goals as goal

-- what was read at a place stands behind what stood before it
take-put_mid : (at room n : ℕ) (buf read : List ℕ) → at ≤ length buf → n ≤ length read → take (at + n) (put_mid at room buf read) ≡ take at buf ++ take n read
take-put_mid at room n buf read within fits =
    let after = post_of at room buf in
    let all = put_mid at room buf read in
    let before : take at all ≡ take at buf = take-put_mid_below _ _ _ _ _ (le_refl _) within in
    let behind : take n (drop at all) ≡ take n read =
    ap (take n) (drop_at (take at buf) (read ++ after) at (length-take-le at buf within)) ∙ take-append-le n read after fits in
    take-add at n all ∙ ap (λ l. l ++ take n (drop at all)) before ∙ ap (λ l. take at buf ++ l) behind

pub loop-filled-preserved : goal.loop-filled-preserved
loop-filled-preserved g c =
    let (within, consumed, later, ready) = c.loop-filled.invariant in
    let joined = take-put_mid _ _ _ _ _ within c.in_ok-count.ensures.bound.0 in (
      search rules,
      subst (Consumes _ _) (sym joined) (Consumes-trans _ _ _ _ _ consumed c.in_ok-count.ensures.bytes.0),
      search rules,
      search rules,
    )
