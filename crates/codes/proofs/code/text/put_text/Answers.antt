use Rattle.std.proofs.Common.{[], ◌∷◌, length, refl, arith, length-append}
use Rattle.codes.proofs.Puts.{put_framed}
use Rattle.codes.proofs.code.text.put_text.Goals as goal
use Rattle.codes.proofs.code.text.put_text.Goals.{then-out-lt2-via-then-out-lt2, then-out-lt2-via-else-out-lt2+then-out-n}

pub returns-then-out-lt2 : goal.returns-then-out-lt2
returns-then-out-lt2 c =
    let l = length-append c.args.bytes.now (0 ∷ []) in (
      elim c.then-out-lt2.branch [
        | then-out-lt2-via-then-out-lt2 w ↦ omega (arith, w.if-out-lt2.true)
        | then-out-lt2-via-else-out-lt2+then-out-n w ↦ omega (arith, w.if-out-lt2.false, w.if-out-n.true)
      ],
      refl,
    )

pub returns : goal.returns
returns c =
    let bs = c.args.bytes.now in (
      omega (arith, length-append bs (0 ∷ [])),
      omega arith,
      put_framed c.args.out.now bs c.copy_from_slice.new.self (length bs) refl (omega arith) c.copy_from_slice.ensures.after,
    )
