use Rattle.std.proofs.Common.{◌≡◌, ◌+◌, ◌-◌, ◌++◌, ℕ, List, length, take, drop, replicate, length-append, sym, ap, ◌∙◌, arith}
use Rattle.std.proofs.lemmas.List.{take_all, take_at}
use borrow.Rule.Slice.PartMut.{put_mid}
use Rattle.std.proofs.lemmas.Result.{on_ok_weaker}
use Rattle.flp_report.proofs.RoomLemmas.{put_mid-end}
use Rattle.flp_report.proofs.read.read_more.Goals as goal

pub returns-clause-bytes : goal.returns-clause-bytes
returns-clause-bytes g c =
    let old = c.args.bytes.now.items in
    let start = c.len-start.result in
    let counted : start ≡ length old = omega (arith, c.len-start.ensures, c.args.bytes.now.ok) in
    let wide = start + c.args.size in
    let zeros : List ℕ = replicate (wide - c.args.bytes.now.len) 0 in
    let grown : c.resize.new.self.items ≡ take wide old ++ zeros = c.in-Ok.ensures.items in
    let kept : take wide old ≡ old = take_all wide old (omega (arith, counted)) in
    let front : take start c.as_mut_slice-room.result.now ≡ old =
    ap (λ (l : List ℕ). take start l) (c.as_mut_slice-room.ensures.value ∙ grown)
    ∙ (ap (λ (l : List ℕ). take start (l ++ zeros)) kept ∙ take_at old zeros start (sym counted)) in
    let buf = c.read_whole.new.buf in
    let room = c.as_mut_slice-room.result.now in
    let long : length room ≡ c.resize.new.self.len = omega (arith, c.as_mut_slice-room.ensures.len) in
    let size : length buf ≡ c.args.size = omega (arith, long, c.in-Ok.ensures.len, c.read_whole.auto.buf) in
    let written : put_mid start (length room - start) room buf ≡ old ++ buf =
    put_mid-end start (length room - start) room buf (omega arith) ∙ ap (λ (l : List ℕ). l ++ buf) front in
    let all : length (old ++ buf) ≡ c.resize.new.self.len = omega (arith, length-append old buf, size, counted, c.in-Ok.ensures.len) in
    on_ok_weaker c.read_whole.result
    (λ gone. (
      buf,
      ap (λ (l : List ℕ). take c.resize.new.self.len (l ++ drop (length l) c.resize.new.self.items)) written ∙ take_at (old ++ buf) _ c.resize.new.self.len all,
      size,
      gone,
    )) c.read_whole.ensures.bytes
