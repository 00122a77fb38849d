-- The numbers that the format gives to kinds and flags, by the names of the System V ABI in lower case.
use Rattle.std.specs.Prelude.{ℕ}

-- the file: the bytes 0x7f 'E' 'L' 'F', class, byte order, version, type and machine
abbrev pub elf_magic : ℕ
elf_magic = 0x464c457f

abbrev pub elfclass64 : ℕ
elfclass64 = 2

abbrev pub elfdata2lsb : ℕ
elfdata2lsb = 1

abbrev pub ev_current : ℕ
ev_current = 1

abbrev pub et_rel : ℕ
et_rel = 1

abbrev pub em_bpf : ℕ
em_bpf = 247

-- section types
abbrev pub sht_null : ℕ
sht_null = 0

abbrev pub sht_progbits : ℕ
sht_progbits = 1

abbrev pub sht_symtab : ℕ
sht_symtab = 2

abbrev pub sht_strtab : ℕ
sht_strtab = 3

abbrev pub sht_rela : ℕ
sht_rela = 4

abbrev pub sht_nobits : ℕ
sht_nobits = 8

abbrev pub sht_rel : ℕ
sht_rel = 9

-- section flags: instructions, compressed bytes
abbrev pub shf_execinstr : ℕ
shf_execinstr = 4

abbrev pub shf_compressed : ℕ
shf_compressed = 0x800

-- symbol types: a function
abbrev pub stt_func : ℕ
stt_func = 2

-- the first of the section numbers that name no section
abbrev pub shn_loreserve : ℕ
shn_loreserve = 0xff00
