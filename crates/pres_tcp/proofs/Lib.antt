mod Captures
