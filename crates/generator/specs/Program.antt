-- The program of which the generator's processes run copies.
use Rattle.std.specs.Prelude.{ℕ, List, ◌++◌, codes, decimal}

-- all of it behind the number of processes
unfoldable pub rest : List ℕ
rest =
    codes "; li s0, 0\n"
    ++ codes "next: ; li t0, 1; beq s1, t0, last\n"
    ++ codes "li a7, 15; ecall; andi s2, a0, 255; srli s3, a0, 8\n"
    ++ codes "li a7, 2; ecall; beq a0, zero, child\n"
    ++ codes "li a7, 10; mv a0, s2; ecall; j work\n"
    ++ codes "child: ; li a7, 10; mv a0, s3; ecall\n"
    ++ codes "li a7, 10; mv a0, s0; ecall\n"
    ++ codes "mv s0, s2; addi s1, s1, -1; j next\n"
    ++ codes "last: ; li s3, 1\n"
    ++ codes "work: ; addi s4, sp, -256\n"
    ++ codes "read: ; li a7, 11; mv a0, s0; mv a1, s4; li a2, 256; ecall\n"
    ++ codes "mv s5, a0; mv t1, s4; add t2, s4, s5\n"
    ++ codes "bump: ; lbu t0, 0(t1); addi t0, t0, 1; sb t0, 0(t1); addi t1, t1, 1; bne t1, t2, bump\n"
    ++ codes "mv s6, s4\n"
    ++ codes "send: ; li a7, 12; mv a0, s3; mv a1, s6; sub a2, t2, s6; ecall\n"
    ++ codes "add s6, s6, a0; bne s6, t2, send; j read\n"

-- the text for so many processes
abbrev pub program_text : ℕ → List ℕ
program_text processes = (codes "li s1, " ++ decimal processes) ++ rest
