mod Texts
mod Widths
