-- What crosses threads with a cluster: programs, images, calls, what a cluster is described by, and what its kernels tell.
use denote.Param.Send.{IsSend, IsSync, sendable}
use denote.Param.SendFields.{as_row_send, declared_send, variants_send}
use Rattle.std.proofs.Crossing.{crosses}
use Rattle.std.proofs.MapsCrossing as maps
use Rattle.sprite_ids.specs.contracts.bytes.Bytes as bytes
use Rattle.sprite_paths.specs.contracts.path.Path as path
use Rattle.process_machine.specs.contracts.register.Register as register
use Rattle.process_machine.specs.contracts.instruction.Operand as operand
use Rattle.process_machine.specs.contracts.instruction.SyscallName as syscall_name
use Rattle.process_machine.specs.contracts.instruction.Instruction as instruction
use Rattle.process_machine.specs.contracts.program.Program as program
use Rattle.process_machine.specs.contracts.image.Image as image
use Rattle.process_machine.specs.contracts.call.Call as call
use Rattle.process_machine.specs.contracts.call.Reply as reply
use Rattle.link_plan.specs.contracts.plan.Plan as plan
use Rattle.unix_calls.specs.contracts.description.KernelLine as kernel_line
use Rattle.unix_calls.specs.contracts.description.ProgramLine as program_line
use Rattle.unix_calls.specs.contracts.description.FileLine as file_line
use Rattle.unix_calls.specs.contracts.description.Description as description
use Rattle.unix_calls.specs.contracts.entry.Part as part
use Rattle.unix_calls.specs.contracts.entry.Entry as entry
use Rattle.unix_calls.specs.contracts.event.SendKind as send_kind
use Rattle.unix_calls.specs.contracts.event.Event as event
use Rattle.unix_calls.specs.contracts.event.Rec as rec

pub ruleset whole = (variants_send, as_row_send, sendable, crosses, maps.crosses)

pub bytes_sends : IsSend bytes.the_row
bytes_sends = search whole depth 100 fits 400000

pub path_sends : IsSend path.the_row
path_sends = search whole depth 100 fits 400000

pub register_sends : IsSend register.the_row
register_sends = search whole depth 100 fits 400000

pub operand_sends : IsSend operand.the_row
operand_sends = search (whole, register_sends) depth 100 fits 400000

pub syscall_name_sends : IsSend syscall_name.the_row
syscall_name_sends = search whole depth 100 fits 400000

pub instruction_sends : IsSend instruction.the_row
instruction_sends = search (whole, register_sends, operand_sends, syscall_name_sends) depth 100 fits 400000

pub program_sends : IsSend program.the_row
program_sends = search (whole, instruction_sends) depth 100 fits 400000

pub image_sends : IsSend image.the_row
image_sends = search whole depth 100 fits 400000

pub call_sends : IsSend call.the_row
call_sends = variants_send call.enum (search (whole, bytes_sends) depth 100 fits 400000)

pub reply_sends : IsSend reply.the_row
reply_sends = search (whole, bytes_sends) depth 100 fits 400000

pub plan_sends : IsSend plan.the_row
plan_sends = search whole depth 100 fits 400000

pub kernel_line_sends : IsSend kernel_line.the_row
kernel_line_sends = search (whole, bytes_sends, path_sends) depth 100 fits 400000

pub program_line_sends : IsSend program_line.the_row
program_line_sends = declared_send program_line.the_type (search (whole, bytes_sends, program_sends) depth 100 fits 400000)

pub file_line_sends : IsSend file_line.the_row
file_line_sends = search (whole, bytes_sends, path_sends) depth 100 fits 400000

pub description_sends : IsSend description.the_row
description_sends = declared_send description.the_type (search (whole, kernel_line_sends, program_line_sends, file_line_sends, plan_sends) depth 100 fits 400000)

pub part_sends : IsSend part.the_row
part_sends = variants_send part.enum (search whole depth 100 fits 400000)

pub entry_sends : IsSend entry.the_row
entry_sends = declared_send entry.the_type (search (whole, part_sends, call_sends, reply_sends) depth 100 fits 400000)

pub send_kind_sends : IsSend send_kind.the_row
send_kind_sends = search whole depth 100 fits 400000

pub event_sends : IsSend event.the_row
event_sends = variants_send event.enum (search (whole, call_sends, reply_sends, entry_sends, path_sends, send_kind_sends) depth 100 fits 400000)

pub rec_sends : IsSend rec.the_row
rec_sends = declared_send rec.the_type (search (whole, event_sends) depth 100 fits 400000)
