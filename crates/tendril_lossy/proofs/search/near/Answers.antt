use Rattle.std.proofs.Common.{◌+◌, take, IsUtf8, arith}
use Rattle.tendril_lossy.proofs.Near.{grow_part, grow_ascii, broken_part}
use Rattle.tendril_lossy.proofs.search.near.Goals as goal

pub loop-at-preserved : goal.loop-at-preserved
loop-at-preserved c =
    let bs = c.args.bytes.now in
    let at = c.loop-at.at in
    let run = c.ascii_front-at.result in
    let many = c.if-bytes-at-lt12.false in
    let short = c.ascii_front-at.ensures.within in
    let some = c.in-Ok.ensures.some in
    let run_end : IsUtf8 (take (at + run) bs) =
    grow_ascii bs at _ run c.loop-at.invariant.text (omega arith) c.ascii_front-at.ensures.ascii in
    record {
      text = grow_part bs (at + run) _ c.in-Ok.len run_end (omega (arith, some)) c.in-Ok.ensures.text;
      within = omega (arith, some);
    }

pub returns-in-Err-clause-text : goal.returns-in-Err-clause-text
returns-in-Err-clause-text c =
    let many = c.if-bytes-at-lt12.false in
    let short = c.ascii_front-at.ensures.within in
    grow_ascii c.args.bytes.now c.loop-at.at _ c.ascii_front-at.result c.loop-at.invariant.text
    (omega arith) c.ascii_front-at.ensures.ascii

pub returns-in-Err-clause-items : goal.returns-in-Err-clause-items
returns-in-Err-clause-items c =
    let bs = c.args.bytes.now in
    let many = c.if-bytes-at-lt12.false in
    let short = c.ascii_front-at.ensures.within in
    broken_part bs (c.loop-at.at + c.ascii_front-at.result) _ c.in-Err.len (returns-in-Err-clause-text c)
    (omega arith) c.in-Err.ensures.none c.in-Err.ensures.fault
