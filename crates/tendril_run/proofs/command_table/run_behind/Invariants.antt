use Rattle.std.proofs.Common.{◌≡◌, ◌+◌, ◌≤◌, length, take, vec_len, vec_capacity}
use Rattle.tendril_run.specs.Chains.{Chain}
use Rattle.tendril_run.proofs.command_table.run_behind.Given as goal

abbrev pub invariant-loop-place : goal.invariant-loop-place
invariant-loop-place g l = record {
  run : Chain (g.T.CommandTable.step (g.C.Classifier.class l.classifier)) (g.T.CommandTable.cells l.fn.table)
      (take l.place l.commands) l.replies.items (g.T.CommandTable.cells l.table);
  room : length l.commands ≤ l.place + g.T.CommandTable.room l.table;
  told : vec_len l.replies ≡ l.place;
  kept : length l.commands ≤ vec_capacity l.replies;
}
