-- What `read_listing`, `run` and `write_output` need beside what Rattle finds.
mod Known
mod Written
