-- A text that reads append to.
use Rattle.std.proofs.Common.{◌≡◌, ℕ, zero, suc, ◌+◌, ◌<◌, ◌≤◌, List, [], ◌∷◌, ◌++◌, slice_index, length, take, drop}
use Rattle.std.proofs.Common.{Option, Result, Ok, Err, refl, inl, inr, subst, sym, ap, ◌∙◌, arith, append_assoc}
use Rattle.std.proofs.Common.{append-nil, length-append, length-take, length-drop, take-add, take_all}
use Rattle.std.proofs.KnownBytes.{Consumes-kept, Consumes-nil}
use Rattle.std.proofs.lemmas.List.Elements.{All-nil, All-push}
use Rattle.std.specs.Io.KnownBytes.{Consumes, ReadConsumes}
use Rattle.std.specs.Prelude.{All}
use Rattle.tendril_errors.specs.declared.refusal.Refusal.TheVariants.{Io}
use Rattle.tendril_stream.proofs.Fed.{given-push, MakesReads-none, MakesReads-on}
use Rattle.tendril_stream.specs.Readings.{Fills, MakesReads}
use Rattle.tendril_stream.specs.Reads.{OneRead, Gave, WasInterrupted, HasFailed, CameToEnd, MayReadOn, given, given_by}
use Rattle.tendril_stream.specs.Reads.{read_of}
use Rattle.tendril_stream.specs.declared.counted_read.ReadFault.{ReadFault}
use Rattle.tendril_stream.specs.declared.counted_read.ReadFault.TheVariants.{Failed, Interrupted}

pub read_some : (n : ℕ) (buffer : List ℕ) → 0 < n → read_of (Ok n) buffer ≡ Gave (take n buffer)
read_some zero buffer h = absurd (omega arith)
read_some (suc n) buffer h = refl

-- a prefix of a list of bytes is a list of bytes
pub front_bytes : (n : ℕ) (xs : List ℕ) → ((i : ℕ) → slice_index xs i < 256) → (i : ℕ) → slice_index (take n xs) i < 256
front_bytes zero xs h i = omega arith
front_bytes (suc n) [] h i = omega arith
front_bytes (suc n) (x ∷ xs) h zero = h zero
front_bytes (suc n) (x ∷ xs) h (suc i) = front_bytes n xs (λ j. h (suc j)) i

module _ {R : Type 0} (history : R → List OneRead) (remaining : R → Option (List ℕ)) (reader : R) (old : List ℕ) where
  -- `made` reads were made, and the first `filled` bytes are the old ones and those that were read
  pub record Filled (made filled : ℕ) (bytes : List ℕ) (at : R) : Type 0 where
    pub these : List OneRead
    pub makes : MakesReads history remaining reader these at
    pub on : All MayReadOn these
    pub count : length these ≡ made
    pub front : take filled bytes ≡ old ++ given these

  pub filled_nothing : (filled : ℕ) → filled ≡ length old → Filled 0 filled old reader
  filled_nothing filled is = record {
    these = [];
    makes = MakesReads-none history remaining reader;
    on =
        All-nil MayReadOn;
    count = refl;
    front = take_all filled old (omega (arith, is)) ∙ sym (append-nil old);
  }

  -- only bytes after the first `filled` have changed
  pub filled_front : (made filled : ℕ) (bytes new : List ℕ) (at : R) → Filled made filled bytes at → take filled new
      ≡ take filled bytes → Filled made filled new at
  filled_front made filled bytes new at f same =
      record { these = f.these; makes = f.makes; on = f.on; count = f.count; front = same ∙ f.front }

  one_more : (made : ℕ) (these : List OneRead) (r : OneRead) → length these ≡ made → length (these ++ r ∷ []) ≡ made + 1
  one_more made these r is = length-append these (r ∷ []) ∙ ap (λ n. n + 1) is

  pub filled_idle : (made filled : ℕ) (bytes new : List ℕ) (at next : R) → Filled made filled bytes at
      → take filled new ≡ take filled bytes → MakesReads history remaining at (WasInterrupted ∷ []) next
      → Filled (made + 1) filled new next
  filled_idle made filled bytes new at next f same read = record {
    these = f.these ++ WasInterrupted ∷ [];
    makes = MakesReads-on history remaining reader at next f.these (WasInterrupted ∷ []) f.makes read;
    on = All-push MayReadOn f.these WasInterrupted f.on tt;
    count = one_more made f.these WasInterrupted f.count;
    front = same ∙ f.front ∙ ap (λ l. old ++ l) (sym (given-push f.these WasInterrupted ∙ append-nil (given f.these)));
  }

  pub filled_more : (made filled n : ℕ) (bytes new : List ℕ) (at next : R) → Filled made filled bytes at
      → take filled new ≡ take filled bytes
      → MakesReads history remaining at (Gave (take n (drop filled new)) ∷ []) next → 0 < n → filled + n ≤ length new
      → Filled (made + 1) (filled + n) new next
  filled_more made filled n bytes new at next f same read some within =
      let part = take n (drop filled new) in
      let long : 0 < length part = omega
      (arith, length-take n (drop filled new), length-drop filled new, some, within) in record {
        these = f.these ++ Gave part ∷ [];
        makes = MakesReads-on history remaining reader at next f.these (Gave part ∷ []) f.makes read;
        on = All-push MayReadOn f.these (Gave part) f.on long;
        count = one_more made f.these (Gave part) f.count;
        front = take-add filled n new ∙ ap (λ l. l ++ part) (same ∙ f.front) ∙ append_assoc old (given f.these) part
            ∙ ap (λ l. old ++ l) (sym (given-push f.these (Gave part)));
      }

  -- a last read that returned no bytes
  last_front : (filled : ℕ) (bytes new : List ℕ) (these : List OneRead) (r : OneRead) → given_by r ≡ []
      → take filled bytes ≡ old ++ given these → take filled new ≡ take filled bytes → take filled new
      ≡ old ++ given (these ++ r ∷ [])
  last_front filled bytes new these r none front same = same ∙ front
      ∙ ap (λ l. old ++ l) (sym (given-push these r ∙ ap (λ l. given these ++ l) none ∙ append-nil (given these)))

  within_max : (max_reads made : ℕ) (these : List OneRead) (r : OneRead) → length these ≡ made → made + 1 ≤ max_reads
      → length (these ++ r ∷ []) ≤ max_reads
  within_max max_reads made these r count within = omega (arith, one_more made these r count, within)

  -- the reader is at its end
  pub filled_end : {T : Type 0} (count : T) (max_reads made filled : ℕ) (bytes new : List ℕ) (at next : R)
      → Filled made filled bytes at → take filled new ≡ take filled bytes
      → MakesReads history remaining at (CameToEnd ∷ []) next → made + 1 ≤ max_reads → filled < 4294967295
      → (these : List OneRead) × MakesReads history remaining reader these next
      × (take filled new ≡ old ++ given these) × Fills {T = T} max_reads these (Ok count) filled
  filled_end count max_reads made filled bytes new at next f same read within short = (
    f.these ++ CameToEnd ∷ [],
    MakesReads-on history remaining reader at next f.these (CameToEnd ∷ []) f.makes read,
    last_front filled bytes new f.these CameToEnd refl f.front same,
    (
      record { before = f.these; on = f.on; is = refl },
      within_max max_reads made f.these CameToEnd f.count within,
      short,
    ),
  )

  -- a read failed
  pub filled_failed : (T : Type 0) (max_reads made filled : ℕ) (bytes new : List ℕ) (at next : R)
      → Filled made filled bytes at → take filled new ≡ take filled bytes
      → MakesReads history remaining at (HasFailed ∷ []) next → made + 1 ≤ max_reads → filled < 4294967295
      → (these : List OneRead) × MakesReads history remaining reader these next
      × (take filled new ≡ old ++ given these) × Fills {T = T} max_reads these (Err Io) filled
  filled_failed T max_reads made filled bytes new at next f same read within short = (
    f.these ++ HasFailed ∷ [],
    MakesReads-on history remaining reader at next f.these (HasFailed ∷ []) f.makes read,
    last_front filled bytes new f.these HasFailed refl f.front same,
    inr (
      inr (inl (
        refl,
        record { before = f.these; on = f.on; is = refl },
        within_max max_reads made f.these
            HasFailed f.count within,
      )),
      short,
    ),
  )

-- the read that returned this answer
module _ {R : Type 0} (history : R → List OneRead) (remaining : R → Option (List ℕ)) (at next : R)
    (answer : Result ℕ ReadFault) (buffer : List ℕ) (read : history next ≡ history at ++ read_of answer buffer ∷ [])
    (consumed : ReadConsumes (remaining at) (remaining next) answer buffer) where
  pub read_ended : answer ≡ Ok 0 → MakesReads history remaining at (CameToEnd ∷ []) next
  read_ended is = (
    subst (λ a. history next ≡ history at ++ read_of a buffer ∷ []) is read,
    (subst (λ a. ReadConsumes (remaining at) (remaining next) a buffer) is consumed).0,
  )

  pub read_gave : (n : ℕ) → answer ≡ Ok n → 0 < n → MakesReads history remaining at (Gave (take n buffer) ∷ []) next
  read_gave n is some = (
    subst (λ t. history next ≡ history at ++ t ∷ []) (ap (λ a. read_of a buffer) is ∙ read_some n buffer some) read,
    subst (Consumes (remaining at) (remaining next)) (sym (append-nil (take n buffer)))
        (subst (λ a. ReadConsumes (remaining at) (remaining next) a buffer) is consumed).0,
  )

  kept : (f : ReadFault) → answer ≡ Err f → Consumes (remaining at) (remaining next) []
  kept f is = Consumes-kept (remaining at) (remaining at) (remaining next) [] (Consumes-nil (remaining at))
      (subst (λ a. ReadConsumes (remaining at) (remaining next) a buffer) is consumed)

  pub read_interrupted : answer ≡ Err Interrupted → MakesReads history remaining at (WasInterrupted ∷ []) next
  read_interrupted is = (subst (λ a. history next ≡ history at ++ read_of a buffer ∷ []) is read, kept Interrupted is)

  pub read_failed : answer ≡ Err Failed → MakesReads history remaining at (HasFailed ∷ []) next
  read_failed is = (subst (λ a. history next ≡ history at ++ read_of a buffer ∷ []) is read, kept Failed is)
