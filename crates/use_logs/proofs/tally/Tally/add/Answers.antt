use Rattle.std.proofs.Common.{◌≡◌, ℕ, ◌+◌, List, arith, sym, ap, ◌∙◌, nat_eq, None}
use Rattle.std.proofs.lemmas.Map.Entries.{sum_by-set_value, sum_by_puts_entry}
use Rattle.std.specs.Cmp.Lexicographic.{pointwise}
use Rattle.std.specs.HashMap.{get, values}
use Rattle.std.specs.Map.{lookup}
use Rattle.std.specs.Prelude.{sum_by}
use Rattle.tendril.specs.Comparisons.{have_equal_bytes}
use Rattle.tendril.specs.Texts.{Text}
use Rattle.use_logs.specs.declared.traffic.Traffic.{Traffic}
use Rattle.use_logs.proofs.tally.Tally.add.Goals as goal

-- texts with the same bytes are the same key
same_key : (es : List (Text × Traffic)) (x y : Text) → x.bytes ≡ y.bytes
    → lookup (have_equal_bytes x) es ≡ lookup (have_equal_bytes y) es
same_key es x y same = ap (λ b. lookup (λ (k : Text). pointwise nat_eq b k.bytes) es) same

pub returns-in-Some-clause-sums : goal.returns-in-Some-clause-sums
returns-in-Some-clause-sums c =
    let before = c.in-Some.traffic.now in
    let after = c.in_ok-traffic.field-0 in
    let m = c.args.self.now.paths in
    let sum : (f : Traffic → ℕ) → f after ≡ f before + f c.args.more
    → sum_by f (values (c.get_mut.follows.lender after)) ≡ sum_by f (values m) + f c.args.more = λ f adds.
    let sets = sum_by-set_value f (have_equal_bytes c.args.path) m.entries before after (sym c.in-Some.ensures.value) in
    rw (c.get_mut.follows.holds after).0 (omega (arith, sets, adds)) in
    (sum (λ t. t.requests) c.in_ok-traffic.ensures.requests, sum (λ t. t.bytes) c.in_ok-traffic.ensures.bytes)

pub returns-clause-sums : goal.returns-clause-sums
returns-clause-sums c =
    let m = c.args.self.now.paths in
    let n = c.insert.new.self in
    let key = c.compact.new.self in
    let e = c.in_ok-insert.ensures in
    let same = c.get_mut.follows.holds-at-none in
    let none = e.old ∙ ap (λ m. get have_equal_bytes m key) same
    ∙ same_key m.entries key c.args.path c.in_ok-compact.ensures.bytes ∙ sym c.in_default.ensures.value in
    let sum : (f : Traffic → ℕ) → sum_by f (values n) ≡ sum_by f (values m) + f c.args.more = λ f.
    omega (
      arith,
      ap (λ m. sum_by f (values m)) same,
      sum_by_puts_entry f have_equal_bytes
          c.get_mut.follows.lender-at-none n key c.args.more None (sym none ∙ e.old) (rw none at e.entries),
    ) in
    (sum (λ t. t.requests), sum (λ t. t.bytes))
