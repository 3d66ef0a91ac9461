-- What a view shows.
use Rattle.std.specs.Prelude.{List, Some}
use Rattle.std.specs.Option.{option_copied_mut}
use Rattle.arn_base.specs.Window.{Window}
use Rattle.guest_mem.specs.declared.shared_view.SharedView.{SharedView}
use Rattle.guest_mem.specs.declared.view.View.{View}
use Rattle.parts_model.specs.Memory.{windows}

-- the windows that a view shows
abbrev pub view_windows : View → List Window
view_windows view = windows view.space.now.bytes (option_copied_mut view.segment)

-- the windows that a view with a segment shows
abbrev pub both_windows : SharedView → List Window
both_windows view = windows view.space.now.bytes (Some view.segment.now)
