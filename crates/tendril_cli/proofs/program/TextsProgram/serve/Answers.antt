use Rattle.std.proofs.Common.{[], subst, sym}
use Rattle.std.proofs.lemmas.Result.{IfErr-weaker, on_ok_weaker}
use Rattle.std.specs.Io.KnownBytes.{Consumes}
use Rattle.tendril_stream.specs.Decodings.{utf8}
use Rattle.tendril_stream.specs.Reads.{given}
use Rattle.tendril_stream.specs.Utf8Laws.{is_utf8}
use Rattle.tendril_transcode.proofs.DecodingEnds.{all_decoded}
use Rattle.tendril_transcode.specs.Transcodings.{BeginsStream, TranscodeStops, Transcoded, most_reads}
use Rattle.tendril_cli.specs.Decodings.{DecodingHalts}
use Rattle.tendril_cli.proofs.Utf8Texts.{decode_stops, decodes_all}
use Rattle.tendril_cli.proofs.program.TextsProgram.serve.Goals as goal

pub transcode-requires : goal.transcode-requires
transcode-requires g c = record {
  begins = subst (BeginsStream utf8) (sym c.new.ensures)
      (record { out_none = is_utf8.out_none; after_none = is_utf8.after_none });
}

pub returns-clause-served : goal.returns-clause-served
returns-clause-served g c =
    let input = g.R.Read.remaining c.args.input.now in
    let before = g.W.Write.contents c.args.out.now in
    let after = g.W.Write.contents c.transcode.new.out in
    let left = g.R.Read.remaining c.transcode.new.reader.reader.now in
    on_ok_weaker c.transcode.result (λ done.
    let gave = subst (λ r. Consumes (g.R.Read.remaining r.now) left (given done.0)) c.new-2.ensures.reader done.1.1 in
    let all = subst (λ k. Transcoded utf8 k most_reads done.0 before after) c.new.ensures done.3 in
    decodes_all input before after (all_decoded utf8 [] input left before after (given done.0) gave done.2 all.writes)
    ) c.transcode.ensures.ok

pub returns-clause-stopped : goal.returns-clause-stopped
returns-clause-stopped g c =
    let input = g.R.Read.remaining c.args.input.now in
    let before = g.W.Write.contents c.args.out.now in
    let after = g.W.Write.contents c.transcode.new.out in
    let left = g.R.Read.remaining c.transcode.new.reader.reader.now in
    IfErr-weaker c.transcode.result _ (DecodingHalts most_reads input before after) (λ refusal stops. record {
      these = stops.0;
      left = left;
      gave = subst (λ r. Consumes (g.R.Read.remaining r.now) left (given stops.0)) c.new-2.ensures.reader stops.1.1;
      stops = decode_stops most_reads stops.0 left before after refusal
          (subst (λ k. TranscodeStops utf8 k most_reads stops.0 left before after refusal) c.new.ensures stops.2);
    }) c.transcode.ensures.stops
