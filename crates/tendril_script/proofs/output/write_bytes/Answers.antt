use Rattle.std.proofs.Common.{◌≡◌, ℕ, ◌-◌, List, ◌++◌, length, take, drop, sym, ap, ◌∙◌, append_assoc, take-append-drop}
use Rattle.std.proofs.lemmas.List.{take_rest}
use Rattle.std.proofs.KnownBytes.{Appends-kept, Appends-trans}
use Rattle.tendril_script.proofs.output.write_bytes.Goals as goal
use Rattle.tendril_script.proofs.output.write_bytes.Goals.{in-Ok, in-Err+else-ne}

-- n more bytes are written
moves_front : (all taken rest : List ℕ) (n : ℕ) → all ≡ taken ++ rest
    → all ≡ (taken ++ take n rest) ++ take (length rest - n) (drop n rest)
moves_front all taken rest n e =
    e ∙ ap (λ l. taken ++ l) (sym (take-append-drop n rest)) ∙ sym (append_assoc taken (take n rest) (drop n rest))
    ∙ ap (λ l. (taken ++ take n rest) ++ l) (sym (take_rest rest n))

pub loop-preserved : goal.loop-preserved
loop-preserved g c =
    let taken = c.loop.invariant.0 in
    let split = c.loop.invariant.1.0 in
    let appended = c.loop.invariant.1.1 in
    elim c.match-write.branch [
      | in-Ok w ↦ rw w.rest-is (
        taken ++ take w.in-Ok.count c.loop.rest.now,
        (
          moves_front _ taken c.loop.rest.now w.in-Ok.count split,
          Appends-trans _ _ _ _ _ appended
              w.in-Ok.ensures.bytes,
        ),
      )
      | in-Err+else-ne w ↦ rw w.rest-is (taken, (split, Appends-kept _ _ _ _ appended w.in-Err.ensures.bytes))
    ]
