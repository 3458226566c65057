-- The cluster file of a workload: so many processes write, move and read again.
use Rattle.std.specs.Prelude.{codes, ℕ, zero, suc, ◌+◌, ◌-◌, ◌%◌, List, [], ◌++◌, length}
use Rattle.std.specs.Fmt.{decimal}
use Rattle.workload_maker.specs.declared.part.Part.{Part}
use Rattle.workload_maker.specs.declared.part.Part.TheVariants as part

-- what each part of the file says: four clients and a server, with the greatest budget; where a process begins, its program's name and
-- its text, with the texts in its pages: its file's path, the client that it moves to, and what it prints; and its instructions: it writes
-- sixteen blocks, moves, reads them all, and prints a line where they are as many bytes as it wrote
unfoldable pub text_of : Part → List ℕ
text_of part.Kernels = codes "version = 1\nbudget = 4000000\n[[kernel]]\nname = \"c1\"\n[[kernel]]\nname = \"c2\"\n[[kernel]]\nname = \"c3\"\n[[kernel]]\nname = \"c4\"\n[[kernel]]\nname = \"s1\"\nserves = [\"/\"]\n"
text_of part.Host = codes "[[start]]\nhost = \"c"
text_of part.Program = codes "\"\nprogram = \"w"
text_of part.Name = codes "\"\n[[program]]\nname = \"w"
text_of part.Path = codes "\"\ntext = '''\npages 2\ntext 0 \"/f"
text_of part.Target = codes "\"\ntext 8 \"c"
text_of part.Length = codes "\"\ntext 16 \"ok\\n\"\nsys open 0 "
text_of part.Work = codes " 7\nset r6 0\nset r7 16\nput:\nsys write 0 0 4096\naddi r6 1\njlt r6 r7 put\nsys migrate 8 2\nsys seek 0 0\nset r6 0\nget:\nsys read 0 4096 4096\nadd r6 r1\njne r1 r5 get\nset r7 65536\njne r6 r7 bad\nsys print 16 3\nbad:\nsys exit 0\n'''\n"

-- the number of a client, by which clients take turns
abbrev pub client_text : ℕ → List ℕ
client_text turn = decimal (turn % 4 + 1)

-- where the process of that number begins, by the digits of the number
abbrev pub begin_text : ℕ → List ℕ → List ℕ
begin_text number digits = text_of part.Host ++ client_text (number - 1) ++ text_of part.Program ++ digits ++ text_of part.Name ++ digits

-- its program
abbrev pub program_text : ℕ → List ℕ → List ℕ
program_text number digits = text_of part.Path ++ digits ++ text_of part.Target ++ client_text number ++ text_of part.Length ++ decimal (length digits + 2) ++ text_of part.Work

-- the process of that number
abbrev pub worker_text : ℕ → List ℕ
worker_text number = begin_text number (decimal number) ++ program_text number (decimal number)

-- those of the first numbers
abbrev pub workers_text : ℕ → List ℕ
workers_text zero = []
workers_text (suc n) = workers_text n ++ worker_text (n + 1)

-- the cluster file of the workload of that many processes
abbrev pub workload_text : ℕ → List ℕ
workload_text n = text_of part.Kernels ++ workers_text n
