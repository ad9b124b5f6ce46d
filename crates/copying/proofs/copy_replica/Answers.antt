-- `copying::copy_replica` meets its contract.
use Rattle.copying.proofs.Copies.{put_copied}
use Rattle.copying.proofs.copy_replica.Goals as goal

pub returns : goal.returns
returns c =
    put_copied c.args.state.now c.args.p c.args.q c.requires.1 c.copy_from_slice.new.self c.copy_from_slice.ensures.after c.args.mode c.args.stable
    c.args.origin
    _
    c.copy_from_slice-2.ensures.after
