-- `coder::plan::is_target` meets its contract.
use borrow.Author.Rules.{rules}
use Rattle.picture.specs.Code.Choice.{is_target}
use Rattle.picture.proofs.coder.plan.is_target.Goals as goal

pub returns-in-PictureBytes : goal.returns-in-PictureBytes
unfolding is_target
returns-in-PictureBytes c = search rules

pub returns-in_default : goal.returns-in_default
unfolding is_target
returns-in_default c = search rules
