use Rattle.std.proofs.Common.{◌≡◌, inl, inr, refl, rules}
use Rattle.std.proofs.lemmas.Result.{IfOk-weaker}
use Rattle.tendril_errors.specs.declared.refusal.Refusal.TheVariants.{Memory}
use Rattle.tendril_script.proofs.SessionLemmas.{reply_lost}
use Rattle.tendril_run.specs.TableAnswers.{IsSpelt, TableReplies}
use Rattle.tendril_run.specs.WhiteSpace.{class}
use Rattle.tendril_run.proofs.table_lines.TableLinesLines.answer.Goals as goal

pub returns-in-Some-clause-stopped : goal.returns-in-Some-clause-stopped
returns-in-Some-clause-stopped g c =
    let command = c.in-Some.command in
    let t = g.T.CommandTable in
    reply_lost (IsSpelt g.T.Command.LineCommand.spelling) (TableReplies (t.step class) (t.refused Memory)) t.printed
    (t.cells c.args.self.now.table) (t.cells c.reply.new.self.table) c.args.line.now command c.reply.result
    c.print.result ((c.in_ok-command.ensures.found command).0 (search rules)) c.reply.ensures

pub returns-in-Some-clause-ok : goal.returns-in-Some-clause-ok
returns-in-Some-clause-ok g c =
    let command = c.in-Some.command in
    let is = (c.in_ok-command.ensures.found command).0 (search rules) in
    IfOk-weaker c.print.result _ _ (λ text h. inl record {
      command = command;
      reply = c.reply.result;
      is_line = is;
      replies = c.reply.ensures;
      prints = h;
    }) c.print.ensures.printed

pub returns-in_ok-from_str-in-None-clause-ok : goal.returns-in_ok-from_str-in-None-clause-ok
returns-in_ok-from_str-in-None-clause-ok g c =
    let none = c.in-None.is in
    inr record {
      no_command = λ command is. let some = (c.in_ok-command.ensures.found command).1 is in cc;
      prints = search rules;
      same = refl;
    }
