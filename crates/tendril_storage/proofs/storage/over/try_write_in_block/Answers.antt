use Rattle.std.proofs.Common.{ℕ, ◌<◌, List, ◌++◌, slice_index, length, take, drop, sym, subst, ◌∙◌, arith}
use Rattle.std.proofs.lemmas.Grind.{common_steps}
use Rattle.tendril_storage.proofs.Overs.{over, lent_part}
use Rattle.tendril_storage.proofs.storage.over.try_write_in_block.Goals as goal

pub returns-in-Some-clause-bytes : goal.returns-in-Some-clause-bytes
returns-in-Some-clause-bytes g c =
    let body = c.in-Some.body.now in
    let full = over c.args.start c.args.len c.bytes_mut-bytes.result.now c.lend.new.bytes in
    let h = rw c.in-Some.is at (c.alone_mut.follows.holds
    (record { bytes = take (length body.bytes) (full ++ drop (length full) body.bytes); took = body.took })) in
    let lent = lent_part c.args.start c.args.len c.bytes_mut-bytes.result.now body.bytes
    (g.A.Atomicity.bytes_of c.args.block.now) c.lend.new.bytes _ c.bytes_mut-bytes.ensures.bytes
    c.in-Some.ensures.bytes c.requires.within c.lend.auto.bytes h.0 in
    record {
      shown = _;
      shows = c.lend.ensures.bytes.shows ∙ lent.2;
      left = _;
      called =
          c.lend.ensures.bytes.called;
      leaves = c.lend.ensures.bytes.leaves ∙ sym lent.0;
    }

pub returns-in-Some-clause-len : goal.returns-in-Some-clause-len
returns-in-Some-clause-len g c =
    let body = c.in-Some.body.now in
    let full = over c.args.start c.args.len c.bytes_mut-bytes.result.now c.lend.new.bytes in
    let h = rw c.in-Some.is at (c.alone_mut.follows.holds
    (record { bytes = take (length body.bytes) (full ++ drop (length full) body.bytes); took = body.took })) in
    let lent = lent_part c.args.start c.args.len c.bytes_mut-bytes.result.now body.bytes
    (g.A.Atomicity.bytes_of c.args.block.now) c.lend.new.bytes _ c.bytes_mut-bytes.ensures.bytes
    c.in-Some.ensures.bytes c.requires.within c.lend.auto.bytes h.0 in
    lent.1

pub returns-in-Some-clause-copied : goal.returns-in-Some-clause-copied
returns-in-Some-clause-copied g c =
    let body = c.in-Some.body.now in
    let full = over c.args.start c.args.len c.bytes_mut-bytes.result.now c.lend.new.bytes in
    let h = rw c.in-Some.is at (c.alone_mut.follows.holds
    (record { bytes = take (length body.bytes) (full ++ drop (length full) body.bytes); took = body.took })) in
    grind (arith, common_steps, h.1)

pub returns-in-Some-clause-are_bytes : goal.returns-in-Some-clause-are_bytes
returns-in-Some-clause-are_bytes g c =
    let body = c.in-Some.body.now in
    let full = over c.args.start c.args.len c.bytes_mut-bytes.result.now c.lend.new.bytes in
    let h = rw c.in-Some.is at (c.alone_mut.follows.holds
    (record { bytes = take (length body.bytes) (full ++ drop (length full) body.bytes); took = body.took })) in
    let lent = lent_part c.args.start c.args.len c.bytes_mut-bytes.result.now body.bytes
    (g.A.Atomicity.bytes_of c.args.block.now) c.lend.new.bytes _ c.bytes_mut-bytes.ensures.bytes
    c.in-Some.ensures.bytes c.requires.within c.lend.auto.bytes h.0 in
    subst (λ (bytes : List ℕ). (i : ℕ) → slice_index bytes i < 256) (sym lent.0) c.lend.ensures.are_bytes
