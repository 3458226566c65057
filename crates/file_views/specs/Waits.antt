-- While callbacks are out the server defers all that would take effect at it.
use Rattle.std.specs.Prelude.{◌==◌, Bool, true, false, ◌&&◌, not, is_some}
use Rattle.std.specs.List.{list_any, list_all}
use Rattle.file_views.specs.declared.call.FileCall.{FileCall}
use Rattle.file_views.specs.declared.step.FileStep.{FileStep}
use Rattle.file_views.specs.declared.step.FileStep.TheVariants as act
use Rattle.file_views.specs.declared.view.View.{View}
use Rattle.file_views.specs.declared.entered.Entered.{Entered}
use Rattle.file_views.specs.Setting.{Setting}
use Rattle.file_views.specs.Views.{server, is_callback, things}
use Rattle.file_views.specs.Entries.{entered}

-- whether a rule follows from another
abbrev pub implies : Bool → Bool → Bool
implies true two = two
implies false two = true

-- whether the step brings the call's reply, and so ends it
abbrev pub ends : FileStep → FileCall → Bool
ends (act.Delivering number) one = (one.number == number) && is_some one.reply
ends step one = false

-- whether a callback that is out before the step is out after it too
abbrev pub stays_out : View → FileStep → Bool
stays_out v step = list_any (λ one. is_callback one.body && not (ends step one)) v.calls

-- whether it takes effect at the server: an operation, or an open that is granted
abbrev pub at_server : Entered → Bool
at_server one = one.kernel == server

-- while a callback stays out, no operation enters at the server in the step, and no open is granted
abbrev pub defers : Setting → View → FileStep → Bool
defers z v step = implies (stays_out v step) (not (list_any at_server (entered z v step)))

-- whatever comes of what is on its way
abbrev pub defers_all : Setting → View → Bool
defers_all z v = list_all (λ one. defers z v (act.Delivering one.number)) (things v)
