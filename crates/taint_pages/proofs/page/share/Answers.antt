use Rattle.std.proofs.Common.{◌∙◌}
use Rattle.std.proofs.Math.Seq.{map-set_same}
use Rattle.taint_pages.specs.Pages.{content}
use Rattle.taint_pages.proofs.page.share.Goals as goal

pub returns-in_err-share : goal.returns-in_err-share
returns-in_err-share c = map-set_same content c.loop-place.pages c.loop-place.place c.share.new.self c.index-pages-place.result c.share.ensures ∙ c.loop-place.invariant

pub loop-place-preserved : goal.loop-place-preserved
loop-place-preserved c = map-set_same content c.loop-place.pages c.loop-place.place c.share.new.self c.index-pages-place.result c.share.ensures ∙ c.loop-place.invariant
