use Rattle.std.proofs.Common.{◌≡◌, [], length, drop, take, slice_index, length-append, refl, sym, ap}
use Rattle.std.proofs.Common.{◌∙◌, arith, append-nil}
use Rattle.std.proofs.lemmas.List.{drop_all, length-take-le}
use Rattle.tendril_encoding.proofs.Sniffs.{after_on, ascii_plain, out_on, seen_all, seen_few, seen_more, waits_bytes}
use Rattle.tendril_encoding.specs.Known.{out_known}
use Rattle.tendril_encoding.specs.Marks.{seen_bytes, sniffed}
use Rattle.tendril_encoding.specs.States.{after_sniff, decided, known_after, out_sniff}
use Rattle.tendril_encoding.specs.declared.mark.Sniffed.TheVariants.{Waits, Marked, Plain}
use Rattle.tendril_encoding.proofs.search.find_mark.Goals as goal

pub overflow_cast-result : goal.overflow_cast-result
overflow_cast-result c =
    let bytes = c.args.bytes.now in
    let i = c.loop-i.i in
    omega (
      arith,
      ap length c.loop-i.invariant.seen,
      length-append (seen_bytes c.args.start) (take i bytes),
      length-take-le i bytes (omega arith),
      seen_few c.loop-i.seen,
    )

pub loop-i-init : goal.loop-i-init
loop-i-init c = record {
  seen = sym (append-nil (seen_bytes c.args.start));
  out = λ k. refl;
  after = λ k. refl;
  ascii = λ n h. n;
}

pub loop-i-preserved : goal.loop-i-preserved
loop-i-preserved c =
    let bytes = c.args.bytes.now in
    let i = c.loop-i.i in
    let seen = c.loop-i.seen in
    let more = c.in-Waits.more in
    let lt = c.loop-i-test.true in
    let e = c.in-Waits.ensures in
    let inv = c.loop-i.invariant in
    record {
      seen = seen_more (seen_bytes c.args.start) bytes (seen_bytes seen) (seen_bytes more) i lt inv.seen
          (waits_bytes c.args.marks seen (slice_index bytes i) more (sym e));
      out = λ k. inv.out k ∙ out_on c.args.marks k seen bytes i (Waits more) lt e;
      after = λ k. inv.after k ∙ after_on c.args.marks k seen bytes i (Waits more) lt e;
      ascii = λ n h.
          let plain = ap (λ s. sniffed c.args.marks s (slice_index bytes i)) (inv.ascii n h)
          ∙ ascii_plain c.args.marks (slice_index bytes i) (h i) in
          let clash : Waits more ≡ Plain = e ∙ plain in
          cc clash;
    }

pub returns-in-Marked : goal.returns-in-Marked
returns-in-Marked c =
    let bytes = c.args.bytes.now in
    let i = c.loop-i.i in
    let seen = c.loop-i.seen in
    let mark = c.in-Marked.mark in
    let lt = c.loop-i-test.true in
    let e = c.in-Marked.ensures in
    let inv = c.loop-i.invariant in (
      omega (arith, lt),
      λ n h.
          let plain = ap (λ s. sniffed c.args.marks s (slice_index bytes i)) (inv.ascii n h)
          ∙ ascii_plain c.args.marks (slice_index bytes i) (h i) in
          let clash : Marked mark ≡ Plain = e ∙ plain in
          cc clash,
      λ k. (
        inv.out k ∙ out_on c.args.marks k seen bytes i (Marked mark) lt e,
        inv.after k ∙ after_on c.args.marks k seen bytes i (Marked mark) lt e,
      ),
    )

pub returns-in-Plain : goal.returns-in-Plain
returns-in-Plain c = λ k.
    let bytes = c.args.bytes.now in
    let i = c.loop-i.i in
    let seen = c.loop-i.seen in
    let lt = c.loop-i-test.true in
    let e = c.in-Plain.ensures in
    let inv = c.loop-i.invariant in
    let all = seen_all (seen_bytes c.args.start) bytes (seen_bytes seen) i lt inv.seen in (
      inv.out k ∙ out_on c.args.marks k seen bytes i Plain lt e ∙ ap (out_known k.chosen) all,
      inv.after k ∙ after_on c.args.marks k seen bytes i Plain lt e ∙ ap (λ l. decided (known_after k l)) all,
    )

pub returns : goal.returns
returns c = λ k.
    let bytes = c.args.bytes.now in
    let inv = c.loop-i.invariant in
    let none : drop c.loop-i.i bytes ≡ [] = drop_all c.loop-i.i bytes (omega arith) in (
      inv.out k ∙ ap (out_sniff c.args.marks k c.loop-i.seen) none,
      inv.after k ∙ ap (after_sniff c.args.marks k c.loop-i.seen) none,
    )
