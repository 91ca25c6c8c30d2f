use Rattle.std.proofs.Common.{[], ap, ◌∙◌}
use Rattle.sha2.specs.Sha256.{sha256}
use Rattle.jup_keys.proofs.KeyringReadings.{message_of}
use Rattle.jup_keys.proofs.key.digest_of.Goals as goal

pub returns : goal.returns
returns c =
    let made = c.finalize.ensures _ (c.update-5.ensures _ (c.update-4.ensures _ (c.update-3.ensures _ (c.update-2.ensures _ (c.update.ensures [] c.new-hasher.ensures))))) in
    made ∙ ap sha256 (message_of c.args.word.now c.as_slice.result.now c.as_bytes.result.now c.as_slice-2.result.now c.args.key.now c.args.number
    c.as_slice.ensures (c.as_bytes.ensures.value ∙ c.format.ensures.text) c.as_slice-2.ensures)
