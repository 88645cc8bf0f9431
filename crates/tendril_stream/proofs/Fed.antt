-- A sink that is sent what a reader returns.
use Rattle.std.proofs.Common.{◌≡◌, ℕ, ◌+◌, ◌<◌, ◌≤◌, List, [], ◌∷◌, ◌++◌, length, Option, Some, None, refl, sym, ap}
use Rattle.std.proofs.Common.{ap₂, subst, ◌∙◌, arith, append_assoc, append-nil, length-append, inl, inr}
use Rattle.std.proofs.KnownBytes.{Consumes-nil, Consumes-trans}
use Rattle.std.proofs.lemmas.Fn.{FoldsTo-push}
use Rattle.std.proofs.lemmas.List.Concat.{flat_map-append}
use Rattle.std.proofs.lemmas.List.Elements.{All-nil, All-push}
use Rattle.std.specs.Io.KnownBytes.{Consumes, IsAtEnd}
use Rattle.std.specs.List.{FoldsTo}
use Rattle.std.specs.Prelude.{All}
use Rattle.tendril_text.specs.Texts.{Text}
use Rattle.tendril_errors.specs.declared.refusal.Refusal.{Refusal}
use Rattle.tendril_errors.specs.declared.refusal.Refusal.TheVariants.{Io, Memory, TooManyReads}
use Rattle.tendril_stream.proofs.Stands.{bytes_of}
use Rattle.tendril_stream.specs.Readings.{MakesReads, Hears, Receives, ReadsAll, ReadStops, Halts}
use Rattle.tendril_stream.specs.Reads.{OneRead, Gave, WasInterrupted, HasFailed, CameToEnd, MayReadOn, given, given_by}
use Rattle.tendril_stream.specs.Sinks.{Sent, Piece}

pub given-append : (xs ys : List OneRead) → given (xs ++ ys) ≡ given xs ++ given ys
given-append xs ys = flat_map-append given_by xs ys

pub given-push : (xs : List OneRead) (r : OneRead) → given (xs ++ r ∷ []) ≡ given xs ++ given_by r
given-push xs r = given-append xs (r ∷ []) ∙ ap (λ l. given xs ++ l) (append-nil (given_by r))

-- the pieces that a sink accepted have the bytes that were read
pub received : {S : Type 0} (takes : S → Sent → S → Type 0) (these : List OneRead) (old new : S)
    → Receives takes old these new → (pieces : List Text) × FoldsTo (λ s p t. takes s (Piece p) t) old pieces new
    × (bytes_of pieces ≡ given these)
received takes [] old new h = ([], h, refl)
received takes (Gave b ∷ these) old new h =
    let r = received takes these h.0 new h.2 in
    (h.1.0 ∷ r.0, (h.0, h.1.3, r.1), ap₂ (λ l m. l ++ m) h.1.1 r.2)
received takes (WasInterrupted ∷ these) old new h =
    received takes these old new (subst (λ s. FoldsTo (Hears takes) s these new) h.1 h.2)
received takes (HasFailed ∷ these) old new h =
    received takes these old new (subst (λ s. FoldsTo (Hears takes) s these new) h.1 h.2)
received takes (CameToEnd ∷ these) old new h =
    received takes these old new (subst (λ s. FoldsTo (Hears takes) s these new) h.1 h.2)

one_more : (these : List OneRead) (r : OneRead) → length (these ++ r ∷ []) ≡ length these + 1
one_more these r = length-append these (r ∷ [])

module _ {R : Type 0} (history : R → List OneRead) (remaining : R → Option (List ℕ)) where
  pub MakesReads-none : (r : R) → MakesReads history remaining r [] r
  MakesReads-none r = (sym (append-nil (history r)), Consumes-nil (remaining r))

  -- reads, and further reads
  pub MakesReads-on : (a b c : R) (first second : List OneRead) → MakesReads history remaining a first b
      → MakesReads history remaining b second c → MakesReads history remaining a (first ++ second) c
  MakesReads-on a b c first second h k = (
    k.0 ∙ ap (λ l. l ++ second) h.0 ∙ append_assoc (history a) first second,
    subst (Consumes (remaining a) (remaining c)) (sym (given-append first second))
        (Consumes-trans (remaining a) (remaining b) (remaining c) (given first) (given second) h.1 k.1),
  )

  module _ {S : Type 0} (takes : S → Sent → S → Type 0) (sink : S) (reader : R) where
    -- `made` reads were made, and the sink was sent their bytes
    pub record Fed (made : ℕ) (now : S) (at : R) : Type 0 where
      pub these : List OneRead
      pub receives : Receives takes sink these now
      pub makes : MakesReads history remaining reader these at
      pub on : All MayReadOn these
      pub count : length these ≡ made

    pub fed_nothing : Fed 0 sink reader
    fed_nothing = record {
      these = [];
      receives = refl;
      makes = MakesReads-none reader;
      on =
          All-nil MayReadOn;
      count = refl;
    }

    -- one more read, after which another may be made
    pub fed_more : (made : ℕ) (now then : S) (at next : R) (one : OneRead) → Fed made now at → MayReadOn one
        → MakesReads history remaining at (one ∷ []) next → Hears takes now one then → Fed (made + 1) then next
    fed_more made now then at next one f goes read heard = record {
      these = f.these ++ one ∷ [];
      receives = FoldsTo-push (Hears takes) sink f.these now one then f.receives heard;
      makes = MakesReads-on reader at next f.these (one ∷ []) f.makes read;
      on = All-push MayReadOn f.these one f.on goes;
      count = one_more f.these one ∙ ap (λ n. n + 1) f.count;
    }

    -- one more read stays within the limit
    within_max : (max_reads made : ℕ) (these : List OneRead) (r : OneRead) → length these ≡ made
        → made + 1 ≤ max_reads → length (these ++ r ∷ []) ≤ max_reads
    within_max max_reads made these r count within = omega (arith, one_more these r, count, within)

    -- the reader is at its end
    pub reads_all : {O : Type 0} (finishes : S → O → Type 0) (max_reads made : ℕ) (now then : S) (at next : R)
        (out : O) → Fed made now at → MakesReads history remaining at (CameToEnd ∷ []) next × IsAtEnd (remaining next)
        × (then ≡ now) → finishes then out → made + 1 ≤ max_reads
        → (these : List OneRead) × MakesReads history remaining reader these next × IsAtEnd (remaining next)
        × ReadsAll takes finishes max_reads sink these out
    reads_all finishes max_reads made now then at next out f read done within = (
      f.these ++ CameToEnd ∷ [],
      MakesReads-on reader at next f.these (CameToEnd ∷ []) f.makes read.0,
      read.1,
      record {
        last = then;
        receives = FoldsTo-push (Hears takes) sink f.these now CameToEnd then f.receives read.2;
        finished = done;
        ends = record { before = f.these; on = f.on; is = refl };
        within = within_max max_reads made f.these CameToEnd f.count within;
      },
    )

    module _ (refuses : S → Sent → Refusal → S → Type 0) (ends : S → Refusal → Type 0) (max_reads : ℕ) where
      abbrev pub Halted : R → Refusal → Option S → Type 0
      Halted next refusal handed = (these : List OneRead) × MakesReads history remaining reader these next
          × Halts takes refuses ends max_reads sink these refusal handed

      -- all `max_reads` reads were made
      pub halts_at_max : (made : ℕ) (now : S) (at : R) → Fed made now at → made ≡ max_reads
          → Halted at TooManyReads (Some now)
      halts_at_max made now at f is = (
        f.these,
        f.makes,
        inl (record {
          sink = now;
          receives = f.receives;
          back = refl;
          stops =
              inl (refl, f.on, f.count ∙ is);
        }),
      )

      -- there was no memory for a read
      halts_without_memory : (made : ℕ) (now then : S) (at next : R) → Fed made now at → (next ≡ at) × (then ≡ now)
          → made < max_reads → Halted next Memory (Some then)
      halts_without_memory made now then at next f same left = (
        f.these,
        subst (λ r. MakesReads history remaining reader f.these r) (sym same.0) f.makes,
        inl (record {
          sink = then;
          receives =
              subst (λ s. Receives takes sink f.these s) (sym same.1) f.receives;
          back = refl;
          stops =
              inr (inr (refl, f.on, subst (λ n. n < max_reads) (sym f.count) left));
        }),
      )

      halts_at_failure : (made : ℕ) (now then : S) (at next : R) → Fed made now at
          → MakesReads history remaining at (HasFailed ∷ []) next × (then ≡ now) → made + 1 ≤ max_reads
          → Halted next Io (Some then)
      halts_at_failure made now then at next f read within = (
        f.these ++ HasFailed ∷ [],
        MakesReads-on reader at next f.these (HasFailed ∷ []) f.makes read.0,
        inl (record {
          sink = then;
          receives = FoldsTo-push (Hears takes) sink f.these now HasFailed then f.receives read.1;
          back = refl;
          stops = inr (inl (
            refl,
            record { before = f.these; on = f.on; is = refl },
            within_max max_reads made f.these
                HasFailed f.count within,
          ));
        }),
      )

      -- a read that returned an error
      pub halts_once : (made : ℕ) (now then : S) (at next : R) (refusal : Refusal) → Fed made now at
          → ReadStops history remaining at next now then refuses refusal → made < max_reads
          → Halted next refusal (Some then)
      halts_once made now then at next refusal f (inl h) left =
          subst (λ r. Halted next r (Some then)) (sym h.0)
          (halts_without_memory made now then at next f (h.1, h.2) left)
      halts_once made now then at next refusal f (inr (inl h)) left =
          subst (λ r. Halted next r (Some then)) (sym h.0)
          (halts_at_failure made now then at next f (h.1, h.2) (omega (arith, left)))
      halts_once made now then at next refusal f (inr (inr h)) left =
          let one = Gave h.0.bytes in (
            f.these ++ one ∷ [],
            MakesReads-on reader at next f.these (one ∷ []) f.makes h.2,
            inr (inl (record {
              sink = now;
              before = f.these;
              piece = h.0;
              last = then;
              receives = f.receives;
              is = refl;
              read = h.1;
              refused = h.3;
              back = refl;
              on = All-push MayReadOn f.these one f.on h.1.0;
              within = within_max max_reads made f.these one f.count (omega (arith, left));
            })),
          )

      -- the sink's `finish` returned an error
      pub halts_at_end : (made : ℕ) (now then : S) (at next : R) (refusal : Refusal) → Fed made now at
          → MakesReads history remaining at (CameToEnd ∷ []) next × IsAtEnd (remaining next) × (then ≡ now)
          → ends then refusal → made + 1 ≤ max_reads → Halted next refusal None
      halts_at_end made now then at next refusal f read refused within = (
        f.these ++ CameToEnd ∷ [],
        MakesReads-on reader at next f.these (CameToEnd ∷ []) f.makes read.0,
        inr (inr (record {
          sink = then;
          receives = FoldsTo-push (Hears takes) sink f.these now CameToEnd then f.receives read.2;
          refused = refused;
          gone = refl;
          at_end = record { before = f.these; on = f.on; is = refl };
          within = within_max max_reads made f.these CameToEnd f.count within;
        })),
      )
