-- What the calls on names may change, and those that make a stream.
use Rattle.std.proofs.Common.{◌≡◌, ◌≤◌, ℕ, Bool, true, false, cond, List, [], ◌∷◌, length, Option, Some, None, refl, arith}
use Rattle.std.specs.List.{AllByRecursion}
use Rattle.sprite_ids.specs.declared.errno.Errno.TheVariants as errno
use Rattle.sprite_ids.specs.declared.names.Mode.{Mode}
use Rattle.sprite_ids.specs.declared.names.Mode.TheVariants as mode
use Rattle.sprite_ids.proofs.ListLaws.{each_push}
use Rattle.sprite_paths.specs.Path.{clean_path}
use Rattle.unix_calls.specs.declared.description.Description.{Description}
use Rattle.unix_calls.specs.Tree.{FileName, Made, Node, Directory, FileNode, DeviceNode, node_at, walk}
use Rattle.unix_calls.specs.State.{Object, OfFile, OfDevice, OfMaster, File, Stream, Process, Unix, free_descriptor}
use Rattle.unix_calls.specs.Answers.{Outcome, replies, value}
use Rattle.unix_calls.specs.NameCalls.{with_path, at_path, stat, stat_of, new_refusal, named, unnamed, mkdir, rmdir, rmdir_refusal, unlink, unlink_refusal, rename, rename_refusal, moved_to, list, list_refusal, chdir, chdir_refusal}
use Rattle.unix_calls.specs.Opening.{Flags, flags_of, at_descriptor, with_new_stream, opened, cut, with_new_file, create_refusal, open_node, open_at, open_with, open_by, open_file, with_new_device, make_at, make_with, pd_make}
use Rattle.unix_calls.specs.Laws.{IsWithin}
use Rattle.unix_calls.proofs.StreamCallLaws.{short_set}
use Rattle.unix_calls.proofs.OutcomeLaws.{Nobody, Fine, fine_refuses, fine_replies, fine_own, fine_unless}

fine_with_path : (c : Description) (u : Unix) (p : Process) (found : Option (List (List ℕ))) (rest : List (List ℕ) → Outcome) → ((path : List (List ℕ)) → Fine c u p (rest path)) → Fine c u p (with_path c u p found rest)
fine_with_path c u p None rest h = fine_refuses c u p errno.BadName
fine_with_path c u p (Some path) rest h = h path

pub fine_at_path : (c : Description) (u : Unix) (p : Process) (text : List ℕ) (rest : List (List ℕ) → Outcome) → ((path : List (List ℕ)) → Fine c u p (rest path)) → Fine c u p (at_path c u p text rest)
fine_at_path c u p text rest h = fine_with_path c u p (clean_path p.cwd text) rest h

-- a call that changes names alone
fine_names : (c : Description) (u w : Unix) (p : Process) → w.processes ≡ u.processes → w.limit ≡ u.limit → (IsWithin u → IsWithin w) → Fine c u p (replies c w p (value 0))
fine_names c u w p same limit within = fine_replies c u w p p 0 0 [] (Nobody same) limit within refl

fine_stat_of : (c : Description) (u : Unix) (p : Process) (path : List (List ℕ)) (node : Option Node) → Fine c u p (stat_of c u p path node)
fine_stat_of c u p path None = fine_refuses c u p errno.NoEntry
fine_stat_of c u p path (Some Directory) = fine_own c u p p 2 _ [] refl
fine_stat_of c u p path (Some (FileNode name)) = fine_own c u p p 1 0 [] refl
fine_stat_of c u p path (Some (DeviceNode place)) = fine_own c u p p 3 0 [] refl

pub fine_stat : (c : Description) (u : Unix) (p : Process) (path : List (List ℕ)) → Fine c u p (stat c u p path)
fine_stat c u p path = fine_unless c u p (walk u.nodes path) _ (fine_stat_of c u p path (node_at u.nodes path))

within_named : (path : List (List ℕ)) (node : Node) (u : Unix) → IsWithin u → IsWithin (named path node u)
within_named path node u h = record { files = h.files; streams = h.streams }

within_unnamed : (path : List (List ℕ)) (u : Unix) → IsWithin u → IsWithin (unnamed path u)
within_unnamed path u h = record { files = h.files; streams = h.streams }

pub fine_mkdir : (c : Description) (u : Unix) (p : Process) (path : List (List ℕ)) → Fine c u p (mkdir c u p path)
fine_mkdir c u p path = fine_unless c u p (new_refusal u path) _ (fine_names c u (named path Directory u) p refl refl (within_named path Directory u))

pub fine_rmdir : (c : Description) (u : Unix) (p : Process) (path : List (List ℕ)) → Fine c u p (rmdir c u p path)
fine_rmdir c u p path = fine_unless c u p (rmdir_refusal u path) _ (fine_names c u (unnamed path u) p refl refl (within_unnamed path u))

pub fine_unlink : (c : Description) (u : Unix) (p : Process) (path : List (List ℕ)) → Fine c u p (unlink c u p path)
fine_unlink c u p path = fine_unless c u p (unlink_refusal u path) _ (fine_names c u (unnamed path u) p refl refl (within_unnamed path u))

fine_moved : (c : Description) (u : Unix) (p : Process) (old new : List (List ℕ)) (node : Option Node) → Fine c u p (replies c (moved_to old new node u) p (value 0))
fine_moved c u p old new None = fine_names c u u p refl refl (λ h. h)
fine_moved c u p old new (Some node) =
    fine_names c u (named new node (unnamed old u)) p refl refl (λ h. within_named new node (unnamed old u) (within_unnamed old u h))

pub fine_rename : (c : Description) (u : Unix) (p : Process) (old new : List (List ℕ)) → Fine c u p (rename c u p old new)
fine_rename c u p old new = fine_unless c u p (rename_refusal u old new) _ (fine_moved c u p old new (node_at u.nodes old))

pub fine_list : (c : Description) (u : Unix) (p : Process) (path : List (List ℕ)) (max : ℕ) → Fine c u p (list c u p path max)
fine_list c u p path max = fine_unless c u p (list_refusal u path max) _ (fine_own c u p p _ 0 _ refl)

pub fine_chdir : (c : Description) (u : Unix) (p : Process) (path : List (List ℕ)) → Fine c u p (chdir c u p path)
fine_chdir c u p path = fine_unless c u p (chdir_refusal u path) _ (fine_own c u p (record p { cwd = path }) 0 0 [] refl)

-- ---- the calls that make a stream

-- the new stream's offset is 0
pub within_new_stream : (object : Object) (m : Mode) (appends : Bool) (u : Unix) → IsWithin u → IsWithin (with_new_stream object m appends u)
within_new_stream object m appends u h =
    record {
      files = h.files;
      streams = each_push (λ (s : Stream). s.offset ≤ u.limit) u.streams _ h.streams (omega arith);
    }

fine_opened : (c : Description) (u w : Unix) (p : Process) (fd : ℕ) (object : Object) (m : Mode) (appends : Bool) → w.processes ≡ u.processes → w.limit ≡ u.limit → (IsWithin u → IsWithin w) → Fine c u p (opened c w p fd object m appends)
fine_opened c u w p fd object m appends same limit within =
    fine_replies c u (with_new_stream object m appends w) p (at_descriptor w fd p) fd 0 [] (Nobody same) limit (λ h. within_new_stream object m appends w (within h)) refl

fine_cut : (c : Description) (u : Unix) (p : Process) (fd : ℕ) (name : FileName) (m : Mode) (appends truncates : Bool) → Fine c u p (opened c (cut truncates name u) p fd (OfFile name) m appends)
fine_cut c u p fd name m appends true =
    fine_opened c u (cut true name u) p fd (OfFile name) m appends refl refl (λ h. record { files = short_set u.limit name [] u.files (omega arith) h.files; streams = h.streams })
fine_cut c u p fd name m appends false = fine_opened c u u p fd (OfFile name) m appends refl refl (λ h. h)

within_new_file : (path : List (List ℕ)) (u : Unix) → IsWithin u → IsWithin (with_new_file path u)
within_new_file path u h =
    record {
      files = each_push (λ (f : File). length f.bytes ≤ u.limit) u.files _ h.files (omega arith);
      streams = h.streams;
    }

fine_open_node : (c : Description) (u : Unix) (p : Process) (fd : ℕ) (flags : Flags) (path : List (List ℕ)) (node : Option Node) → Fine c u p (open_node c u p fd flags path node)
fine_open_node c u p fd flags path None =
    fine_unless c u p (create_refusal u flags path) _ (fine_opened c u (with_new_file path u) p fd (OfFile (Made u.entries)) flags.mode flags.appends refl refl (within_new_file path u))
fine_open_node c u p fd flags path (Some Directory) = fine_refuses c u p errno.IsDir
fine_open_node c u p fd flags path (Some (FileNode name)) = fine_cut c u p fd name flags.mode flags.appends flags.truncates
fine_open_node c u p fd flags path (Some (DeviceNode place)) = fine_opened c u u p fd (OfDevice place) flags.mode flags.appends refl refl (λ h. h)

fine_open_with : (c : Description) (u : Unix) (p : Process) (fd : Option ℕ) (flags : Flags) (text : List ℕ) → Fine c u p (open_with c u p fd flags text)
fine_open_with c u p None flags text = fine_refuses c u p errno.TooMany
fine_open_with c u p (Some fd) flags text =
    fine_at_path c u p text (open_at c u p fd flags) (λ path. fine_unless c u p (walk u.nodes path) _ (fine_open_node c u p fd flags path (node_at u.nodes path)))

fine_open_by : (c : Description) (u : Unix) (p : Process) (flags : Option Flags) (text : List ℕ) → Fine c u p (open_by c u p flags text)
fine_open_by c u p None text = fine_refuses c u p errno.Invalid
fine_open_by c u p (Some flags) text = fine_open_with c u p (free_descriptor p) flags text

pub fine_open : (c : Description) (u : Unix) (p : Process) (text : List ℕ) (flags : ℕ) → Fine c u p (open_file c u p text flags)
fine_open c u p text flags = fine_open_by c u p (flags_of flags) text

fine_make_with : (c : Description) (u : Unix) (p : Process) (fd : Option ℕ) (text : List ℕ) → Fine c u p (make_with c u p fd text)
fine_make_with c u p None text = fine_refuses c u p errno.TooMany
fine_make_with c u p (Some fd) text =
    fine_at_path c u p text (make_at c u p fd) (λ path. fine_unless c u p (new_refusal u path) _ (fine_opened c u (with_new_device path u) p fd (OfMaster u.entries) mode.Both false refl refl (λ h. record { files = h.files; streams = h.streams })))

pub fine_pd_make : (c : Description) (u : Unix) (p : Process) (text : List ℕ) → Fine c u p (pd_make c u p text)
fine_pd_make c u p text = fine_make_with c u p (free_descriptor p) text
