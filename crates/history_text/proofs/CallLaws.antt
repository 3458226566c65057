-- Calls and replies are read as they were printed.
use Rattle.std.proofs.Common.{◌≡◌, ℕ, true, List, ◌++◌, refl, ap}
use Rattle.std.specs.Prelude.{codes}
use Rattle.std.specs.List.{AllByRecursion}
use Rattle.process_machine.specs.declared.call.Call.{Call}
use Rattle.process_machine.specs.declared.call.Call.TheVariants as call
use Rattle.process_machine.specs.declared.call.Reply.{Reply}
use Rattle.process_machine.specs.declared.call.Reply.TheVariants.{Value, Error}
use Rattle.field_reader.specs.Reads.{found, made, ends_word}
use Rattle.history_text.specs.Formats.{IsFormat, ◌then◌}
use Rattle.history_text.specs.Numbers.{number64}
use Rattle.history_text.specs.Texts.{text}
use Rattle.history_text.specs.Calls.{call_shape, call_rows, call_format, reply_shape, reply_rows, reply_format}
use Rattle.history_text.proofs.FormatLaws.{then_is, named_is, name_again, IsRow, row_is, bare_row_is}
use Rattle.history_text.proofs.NumberLaws.{number64_is, errno_is}
use Rattle.history_text.proofs.TextLaws.{text_is}

text_number_is : IsFormat (text then number64)
text_number_is = then_is text_is number64_is

numbers_are : IsFormat (number64 then number64)
numbers_are = then_is number64_is number64_is

number_text_is : IsFormat (number64 then text)
number_text_is = then_is number64_is text_is

texts_are : IsFormat (text then text)
texts_are = then_is text_is text_is

put_is : IsFormat (number64 then text then number64)
put_is = then_is number64_is (then_is text_is number64_is)

numbers_text_is : IsFormat (number64 then number64 then text)
numbers_text_is = then_is number64_is (then_is number64_is text_is)

call_again : (value : Call) (rest : List ℕ) → (call_shape value).Fits → ends_word rest ≡ true → call_format.read ((call_shape value).printed ++ rest) ≡ found value rest
call_again (call.Print a) rest fits ends = ap (made {B = Call} call.Print) (text_is.again a rest fits ends)
call_again (call.Exit a) rest fits ends = ap (made {B = Call} call.Exit) (number64_is.again a rest fits ends)
call_again call.Getpid rest fits ends = name_again call_rows (codes "getpid") rest refl ends
call_again call.Getppid rest fits ends = name_again call_rows (codes "getppid") rest refl ends
call_again (call.Host a) rest fits ends = ap (made {B = Call} call.Host) (number64_is.again a rest fits ends)
call_again call.Tick rest fits ends = name_again call_rows (codes "tick") rest refl ends
call_again call.Fork rest fits ends = name_again call_rows (codes "fork") rest refl ends
call_again (call.Exec a b) rest fits ends = ap (made {B = Call} (λ p. call.Exec p.0 p.1)) (text_number_is.again (a, b) rest fits ends)
call_again call.Wait rest fits ends = name_again call_rows (codes "wait") rest refl ends
call_again (call.Kill a) rest fits ends = ap (made {B = Call} call.Kill) (number64_is.again a rest fits ends)
call_again (call.OpenFile a b) rest fits ends = ap (made {B = Call} (λ p. call.OpenFile p.0 p.1)) (text_number_is.again (a, b) rest fits ends)
call_again (call.Close a) rest fits ends = ap (made {B = Call} call.Close) (number64_is.again a rest fits ends)
call_again (call.Dup a) rest fits ends = ap (made {B = Call} call.Dup) (number64_is.again a rest fits ends)
call_again (call.Read a b) rest fits ends = ap (made {B = Call} (λ p. call.Read p.0 p.1)) (numbers_are.again (a, b) rest fits ends)
call_again (call.Write a b) rest fits ends = ap (made {B = Call} (λ p. call.Write p.0 p.1)) (number_text_is.again (a, b) rest fits ends)
call_again (call.Seek a b) rest fits ends = ap (made {B = Call} (λ p. call.Seek p.0 p.1)) (numbers_are.again (a, b) rest fits ends)
call_again (call.Size a) rest fits ends = ap (made {B = Call} call.Size) (number64_is.again a rest fits ends)
call_again (call.Sync a) rest fits ends = ap (made {B = Call} call.Sync) (number64_is.again a rest fits ends)
call_again (call.Stat a) rest fits ends = ap (made {B = Call} call.Stat) (text_is.again a rest fits ends)
call_again (call.Mkdir a) rest fits ends = ap (made {B = Call} call.Mkdir) (text_is.again a rest fits ends)
call_again (call.Rmdir a) rest fits ends = ap (made {B = Call} call.Rmdir) (text_is.again a rest fits ends)
call_again (call.Unlink a) rest fits ends = ap (made {B = Call} call.Unlink) (text_is.again a rest fits ends)
call_again (call.Rename a b) rest fits ends = ap (made {B = Call} (λ p. call.Rename p.0 p.1)) (texts_are.again (a, b) rest fits ends)
call_again (call.List a b) rest fits ends = ap (made {B = Call} (λ p. call.List p.0 p.1)) (text_number_is.again (a, b) rest fits ends)
call_again (call.Chdir a) rest fits ends = ap (made {B = Call} call.Chdir) (text_is.again a rest fits ends)
call_again (call.Migrate a) rest fits ends = ap (made {B = Call} call.Migrate) (text_is.again a rest fits ends)
call_again (call.PdMake a) rest fits ends = ap (made {B = Call} call.PdMake) (text_is.again a rest fits ends)
call_again (call.PdGet a b) rest fits ends = ap (made {B = Call} (λ p. call.PdGet p.0 p.1)) (numbers_are.again (a, b) rest fits ends)
call_again (call.PdPut a b c) rest fits ends = ap (made {B = Call} (λ p. call.PdPut p.0 p.1.0 p.1.1)) (put_is.again (a, (b, c)) rest fits ends)
call_again (call.Ioctl a b c) rest fits ends = ap (made {B = Call} (λ p. call.Ioctl p.0 p.1.0 p.1.1)) (numbers_text_is.again (a, (b, c)) rest fits ends)
call_again (call.Rexec a b) rest fits ends = ap (made {B = Call} (λ p. call.Rexec p.0 p.1)) (texts_are.again (a, b) rest fits ends)
call_again (call.Refused a) rest fits ends = ap (made {B = Call} call.Refused) (errno_is.again a rest fits ends)
call_again call.BadStep rest fits ends = name_again call_rows (codes "bad") rest refl ends

call_rows_are : AllByRecursion (IsRow call_shape) call_rows
call_rows_are = (
  row_is call_shape (codes "print") text_is call.Print (λ x. refl) (λ x h. h),
  (
    row_is call_shape (codes "exit") number64_is call.Exit (λ x. refl) (λ x h. h),
    (
      bare_row_is call_shape (codes "getpid") call.Getpid refl tt,
      (
        bare_row_is call_shape (codes "getppid") call.Getppid refl tt,
        (
          row_is call_shape (codes "host") number64_is call.Host (λ x. refl) (λ x h. h),
          (
            bare_row_is call_shape (codes "tick") call.Tick refl tt,
            (
              bare_row_is call_shape (codes "fork") call.Fork refl tt,
              (
                row_is call_shape (codes "exec") text_number_is (λ p. call.Exec p.0 p.1) (λ x. refl) (λ x h. h),
                (
                  bare_row_is call_shape (codes "wait") call.Wait refl tt,
                  (
                    row_is call_shape (codes "kill") number64_is call.Kill (λ x. refl) (λ x h. h),
                    (
                      row_is call_shape (codes "open") text_number_is (λ p. call.OpenFile p.0 p.1) (λ x. refl) (λ x h. h),
                      (
                        row_is call_shape (codes "close") number64_is call.Close (λ x. refl) (λ x h. h),
                        (
                          row_is call_shape (codes "dup") number64_is call.Dup (λ x. refl) (λ x h. h),
                          (
                            row_is call_shape (codes "read") numbers_are (λ p. call.Read p.0 p.1) (λ x. refl) (λ x h. h),
                            (
                              row_is call_shape (codes "write") number_text_is (λ p. call.Write p.0 p.1) (λ x. refl) (λ x h. h),
                              (
                                row_is call_shape (codes "seek") numbers_are (λ p. call.Seek p.0 p.1) (λ x. refl) (λ x h. h),
                                (
                                  row_is call_shape (codes "size") number64_is call.Size (λ x. refl) (λ x h. h),
                                  (
                                    row_is call_shape (codes "sync") number64_is call.Sync (λ x. refl) (λ x h. h),
                                    (
                                      row_is call_shape (codes "stat") text_is call.Stat (λ x. refl) (λ x h. h),
                                      (
                                        row_is call_shape (codes "mkdir") text_is call.Mkdir (λ x. refl) (λ x h. h),
                                        (
                                          row_is call_shape (codes "rmdir") text_is call.Rmdir (λ x. refl) (λ x h. h),
                                          (
                                            row_is call_shape (codes "unlink") text_is call.Unlink (λ x. refl) (λ x h. h),
                                            (
                                              row_is call_shape (codes "rename") texts_are (λ p. call.Rename p.0 p.1) (λ x. refl) (λ x h. h),
                                              (
                                                row_is call_shape (codes "list") text_number_is (λ p. call.List p.0 p.1) (λ x. refl) (λ x h. h),
                                                (
                                                  row_is call_shape (codes "chdir") text_is call.Chdir (λ x. refl) (λ x h. h),
                                                  (
                                                    row_is call_shape (codes "migrate") text_is call.Migrate (λ x. refl) (λ x h. h),
                                                    (
                                                      row_is call_shape (codes "pd_make") text_is call.PdMake (λ x. refl) (λ x h. h),
                                                      (
                                                        row_is call_shape (codes "pd_get") numbers_are (λ p. call.PdGet p.0 p.1) (λ x. refl) (λ x h. h),
                                                        (
                                                          row_is call_shape (codes "pd_put") put_is (λ p. call.PdPut p.0 p.1.0 p.1.1) (λ x. refl) (λ x h. h),
                                                          (
                                                            row_is call_shape (codes "ioctl") numbers_text_is (λ p. call.Ioctl p.0 p.1.0 p.1.1) (λ x. refl) (λ x h. h),
                                                            (
                                                              row_is call_shape (codes "rexec") texts_are (λ p. call.Rexec p.0 p.1) (λ x. refl) (λ x h. h),
                                                              (
                                                                row_is call_shape (codes "refused") errno_is call.Refused (λ x. refl) (λ x h. h),
                                                                (
                                                                  bare_row_is call_shape (codes "bad") call.BadStep refl tt,
                                                                  tt,
                                                                ),
                                                              ),
                                                            ),
                                                          ),
                                                        ),
                                                      ),
                                                    ),
                                                  ),
                                                ),
                                              ),
                                            ),
                                          ),
                                        ),
                                      ),
                                    ),
                                  ),
                                ),
                              ),
                            ),
                          ),
                        ),
                      ),
                    ),
                  ),
                ),
              ),
            ),
          ),
        ),
      ),
    ),
  ),
)

pub call_is : IsFormat call_format
call_is = named_is call_shape call_rows call_again call_rows_are

reply_again : (value : Reply) (rest : List ℕ) → (reply_shape value).Fits → ends_word rest ≡ true → reply_format.read ((reply_shape value).printed ++ rest) ≡ found value rest
reply_again (Value a b c) rest fits ends = ap (made {B = Reply} (λ p. Value p.0 p.1.0 p.1.1)) (numbers_text_is.again (a, (b, c)) rest fits ends)
reply_again (Error a) rest fits ends = ap (made {B = Reply} Error) (errno_is.again a rest fits ends)

reply_rows_are : AllByRecursion (IsRow reply_shape) reply_rows
reply_rows_are = (
  row_is reply_shape (codes "ok") numbers_text_is (λ p. Value p.0 p.1.0 p.1.1) (λ x. refl) (λ x h. h),
  (row_is reply_shape (codes "err") errno_is Error (λ x. refl) (λ x h. h), tt),
)

pub reply_is : IsFormat reply_format
reply_is = named_is reply_shape reply_rows reply_again reply_rows_are
