use Rattle.std.proofs.Common.{◌∙◌, chars, sym}
use Rattle.tendril.specs.Lossy.{characters, due_open}
use Rattle.tendril_bench.specs.Decoded.{spelled}
use Rattle.tendril_bench.proofs.Resumed.{completed, joined}
use Rattle.tendril_bench.proofs.resume.resume.Goals as goal

pub returns-in-Some-2-clause-characters : goal.returns-in-Some-2-clause-characters
returns-in-Some-2-clause-characters c =
    let rest = c.complete_from.new.piece.bytes in
    let found = c.in-Some.found in
    let all = completed c.args.held.now c.args.piece.bytes rest found c.laws.ensures.resumes
    c.in-Some.ensures.completed in
    joined (chars c.args.text.now.bytes) (chars c.push_completed.new.text.bytes) (chars c.push_decoded.new.text.bytes)
    (spelled found) (characters (due_open rest)) _
    c.in_ok-push_completed.ensures c.in_ok-kept.ensures.characters all.0

pub returns-in-Some-2-clause-keeps : goal.returns-in-Some-2-clause-keeps
returns-in-Some-2-clause-keeps c =
    let all = completed c.args.held.now c.args.piece.bytes c.complete_from.new.piece.bytes c.in-Some.found
    c.laws.ensures.resumes c.in-Some.ensures.completed in
    (rw c.in-Some-2.is at c.in_ok-kept.ensures.keeps) ∙ sym all.1

pub returns-in_default-2-clause-characters : goal.returns-in_default-2-clause-characters
returns-in_default-2-clause-characters c =
    let rest = c.complete_from.new.piece.bytes in
    let found = c.in-Some.found in
    let all = completed c.args.held.now c.args.piece.bytes rest found c.laws.ensures.resumes
    c.in-Some.ensures.completed in
    joined (chars c.args.text.now.bytes) (chars c.push_completed.new.text.bytes) (chars c.push_decoded.new.text.bytes)
    (spelled found) (characters (due_open rest)) _
    c.in_ok-push_completed.ensures c.in_ok-kept.ensures.characters all.0

pub returns-in_default-2-clause-keeps : goal.returns-in_default-2-clause-keeps
returns-in_default-2-clause-keeps c =
    let all = completed c.args.held.now c.args.piece.bytes c.complete_from.new.piece.bytes c.in-Some.found
    c.laws.ensures.resumes c.in-Some.ensures.completed in
    c.in-Some.ensures.emptied ∙ sym (rw c.in_default-2.is at c.in_ok-kept.ensures.keeps) ∙ sym all.1
